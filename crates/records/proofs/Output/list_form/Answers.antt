-- Where the record does not fit, the run stops; else the first bytes of what `record` answers are the record, and are put after the others.
use Rattle.std.proofs.Common.{◌≡◌, ◌*◌, ℕ, suc, length, List, ◌++◌, take, arith, sym, ap, ◌∙◌, add-one}
use Rattle.calculus.specs.Branch.{Branch}
use Rattle.calculus.specs.Forms.{record_of, record_length}
use Rattle.calculus.specs.Run.{DONE}
use Rattle.calculus.proofs.RecordFields.{record_is_long}
use Rattle.slices.specs.Bytes.{put_at}
use Rattle.branch.specs.Held.{held}
use Rattle.records.specs.State.{counts_of, state}
use Rattle.records.proofs.FormWriting.{record_front, listed_not, listed_there, few_forms}
use Rattle.records.proofs.Output.list_form.Goals as goal

-- the record's place, by the length that its contract says
place : (size n f : ℕ) → size ≡ record_length n → size * f ≡ record_length n * f
place size n f e = ap (λ (x : ℕ). x * f) e

-- the bytes of what `record` answers up to that length are as many
front_length : (b : Branch) (n size : ℕ) (r more : List ℕ) → size ≡ record_length n → r ≡ record_of n b ++ more → length (take size r) ≡ size
front_length b n size r more l e = ap length (record_front b n size r more l e) ∙ record_is_long b n ∙ sym l

pub returns-then-self-at-clause-lists : goal.returns-then-self-at-clause-lists
returns-then-self-at-clause-lists c =
    let s = c.args.self.now in
    sym (listed_not c.args.terms _ (state s.counts DONE s.forms.now s.trace.now) (omega (arith, place _ _ s.counts.forms c.record_length-size.ensures)))

pub slice_bounds-put-end : goal.slice_bounds-put-end
unfolding record_length
slice_bounds-put-end c = omega (arith, c.record_length-size.ensures)

pub slice_bounds-put-end-2 : goal.slice_bounds-put-end-2
slice_bounds-put-end-2 c = sym (front_length _ _ _ _ _ c.record_length-size.ensures c.record.ensures)

pub overflow_add-self : goal.overflow_add-self
overflow_add-self c =
    let s = c.args.self.now in
    omega (arith, few_forms c.args.terms s.counts.forms (length s.forms.now) c.requires.3 c.requires.2)

pub returns-clause-lists : goal.returns-clause-lists
returns-clause-lists c =
    let s = c.args.self.now in
    let p = place _ _ s.counts.forms c.record_length-size.ensures in
    let f = record_front _ _ _ _ _ c.record_length-size.ensures c.record.ensures in
    rw (c.put.ensures, f, add-one)
    (ap (λ (at : ℕ). state (counts_of s.counts.steps (suc s.counts.forms)) DONE (put_at s.forms.now at (record_of c.args.terms (held c.args.b.now))) s.trace.now) p
    ∙ sym (listed_there c.args.terms _ (state s.counts DONE s.forms.now s.trace.now) (omega (arith, p))))
