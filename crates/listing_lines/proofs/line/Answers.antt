-- Line 0 is the heading, and after the last there is nothing; any other is the line of record i - 1, which stands in the form buffer since it was counted.
use Rattle.std.proofs.Common.{rules, refl, sym, ap, ◌∙◌, ◌≡◌, suc, ◌+◌, ◌*◌, ◌-◌, ◌≤◌, length, arith}
use Rattle.calculus.specs.Problem.{term_count}
use Rattle.calculus.specs.Forms.{record_length}
use Rattle.listing_lines.specs.Listing.{heading}
use Rattle.listing_lines.specs.Writing.{problem_in, line_at}
use Rattle.text.proofs.Texts.{says_over}
use Rattle.listing_lines.proofs.LineLaws.{Counted, first_line, no_line, counted_form, no_refusal, same_bytes, same_length, part}
use Rattle.listing_lines.proofs.line.Goals as goal
use Rattle.listing_lines.proofs.line.Goals.{After-record_length-size}

pub returns-then-i-eq0 : goal.returns-then-i-eq0
returns-then-i-eq0 c =
    let a = c.args in
    let r = says_over (line_at a.problem.now a.i) refl c.say_heading.ensures.says (ap (line_at a.problem.now) c.if-i-eq0.true ∙ first_line _ _ _ c.requires.0 ∙ ap heading (sym c.from.ensures.0)) in
    search (rules, r)

pub returns-then-lines-i : goal.returns-then-lines-i
returns-then-lines-i c =
    let a = c.args in
    let e = c.lines.ensures.1 _ _ c.requires.0 in
    rw (no_line _ _ _ c.requires.0 a.i (omega (arith, e, c.if-lines-i.true))) (refl, refl)

pub unreachable-requires : goal.unreachable-requires
unreachable-requires c = no_refusal _ _ (counted_form _ c.args.word _ c.requires.0 (c.args.i - 1) (omega (arith, c.lines.ensures.0, c.if-lines-i.false))).reads c.in_default.field-0 c.in_default.ensures

-- record i - 1 was counted, its length is that of the problem's records, and it stands within the form buffer
counted : (c : After-record_length-size) → Counted c.args.problem.now c.args.word c.args.forms.now c.requires.0 (problem_in c.args.problem.now) (c.args.i - 1)
counted c = counted_form _ _ _ _ _ (omega (arith, c.lines.ensures.0, c.if-lines-i.false))

sized : (c : After-record_length-size) → c.record_length-size.result ≡ record_length (term_count (problem_in c.args.problem.now))
sized c = c.record_length-size.ensures ∙ same_length _ _ (counted c).reads _ c.in-Ok.ensures

room : (c : After-record_length-size) → c.record_length-size.result * (c.args.i - 1) + c.record_length-size.result ≤ length c.args.forms.now
room c = rw (sized c) (counted c).fits

pub overflow_mul-from : goal.overflow_mul-from
overflow_mul-from c = omega (arith, room (goal.at.overflow_mul-from c).After-record_length-size)

pub overflow_add-record : goal.overflow_add-record
overflow_add-record c = omega (arith, room (goal.at.overflow_add-record c).After-record_length-size)

pub slice_bounds-record-end : goal.slice_bounds-record-end
slice_bounds-record-end c = room (goal.at.slice_bounds-record-end c).After-record_length-size

pub invariant_of-form : goal.invariant_of-form
invariant_of-form c =
    let s = (goal.at.invariant_of-form c).After-record_length-size in
    let f = counted s in
    record { shaped = rw (same_bytes _ _ f.reads _ c.in-Ok.ensures, sized s, part) f.listed_is }

pub returns : goal.returns
returns c =
    let a = c.args in
    let s = (goal.at.returns c).After-record_length-size in
    let f = counted s in
    let j : a.i ≡ suc (a.i - 1) = omega arith in
    let r = says_over (line_at a.problem.now a.i) refl c.say_line.ensures.says (ap (line_at a.problem.now) j ∙ f.line_is ∙ sym (rw (same_bytes _ _ f.reads _ c.in-Ok.ensures, sized s, part) refl)) in
    search (rules, r)
