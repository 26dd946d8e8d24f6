-- There is room, since each item has at most 453 bytes with the space before it; after the last all items are written.
use Rattle.std.proofs.Common.{◌≡◌, ◌+◌, arith, length}
use Rattle.calculus.specs.Problem.{set_count}
use Rattle.listing_lines.specs.Writing.{problem_in}
use Rattle.text.proofs.Texts.{says_nothing, says_more}
use Rattle.listing_lines.proofs.Values.{known, few_items}
use Rattle.listing_lines.proofs.Items.{no_items, all_items, item_step}
use Rattle.listing_lines.proofs.form.Form.say_line.Goals as goal

pub loop-k-init : goal.loop-k-init
loop-k-init c = rw (no_items _ _) (omega arith, says_nothing _)

pub lead-requires : goal.lead-requires
lead-requires c = omega (arith, few_items c.args.self.now)

pub say_item-requires : goal.say_item-requires
say_item-requires c = (c.loop-k-test.true, omega (arith, few_items c.args.self.now))

pub loop-k-preserved : goal.loop-k-preserved
loop-k-preserved c =
    let f = c.args.self.now in
    (omega arith, item_step _ _ _ (omega (arith, known f)) c.requires.0 c.loop-k.invariant.1 (omega (arith, few_items f)) c.lead.ensures.says c.say_item.ensures.says)

pub say-requires : goal.say-requires
say-requires c = omega (arith, few_items c.args.self.now)

pub returns : goal.returns
returns c =
    let f = c.args.self.now in
    let e : c.loop-k.k ≡ length (problem_in f.problem.bytes.now).variables + set_count (problem_in f.problem.bytes.now) = omega (arith, known f) in
    rw (all_items _ _, ← e) (record { says = says_more (omega arith) c.loop-k.invariant.1 c.say.ensures.says })
