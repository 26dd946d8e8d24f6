-- Rule 20: the bit of entry c's root says whether its class is joined, and is cleared. Any other rule: the bit of number c.
use Rattle.std.proofs.Common.{arith, sym, ◌∙◌}
use Rattle.step.proofs.Turning.{number_small, entry_there, entry_below, turn_skip, turn_take, number_take, number_skip}
use Rattle.step.proofs.child_at.Goals as goal

pub bounds-entries-c : goal.bounds-entries-c
bounds-entries-c c = rw c.entries.ensures (entry_there c.requires c.if-at-eq20.true)

pub root-h-requires : goal.root-h-requires
root-h-requires c = (rw c.entries.ensures (entry_below c.requires c.if-at-eq20.true), c.requires.0.falls)

pub returns-then-has_bit : goal.returns-then-has_bit
returns-then-has_bit c = turn_take c.requires c.args.left c.if-at-eq20.true _ (rw c.entries.ensures at c.root-h.ensures.0) (sym c.has_bit.ensures ∙ c.if-has_bit.true) (omega arith) _ c.join_of.ensures _ c.bit_at.ensures

pub returns-else-has_bit : goal.returns-else-has_bit
returns-else-has_bit c = turn_skip c.requires c.args.left c.if-at-eq20.true _ (rw c.entries.ensures at c.root-h.ensures.0) (sym c.has_bit.ensures ∙ c.if-has_bit.false)

pub has_bit-requires-else-at-eq20 : goal.has_bit-requires-else-at-eq20
has_bit-requires-else-at-eq20 c = let k = number_small c.requires c.if-at-eq20.false in omega arith

pub overflow_cast-c : goal.overflow_cast-c
overflow_cast-c c = let k = number_small c.requires c.if-at-eq20.false in omega arith

pub returns-then-has_bit-2 : goal.returns-then-has_bit-2
returns-then-has_bit-2 c = number_take c.requires c.args.left c.if-at-eq20.false (sym c.has_bit-else-at-eq20.ensures ∙ c.if-has_bit-2.true) _ c.act_of.ensures

pub returns-else-has_bit-2 : goal.returns-else-has_bit-2
returns-else-has_bit-2 c = number_skip c.requires c.args.left c.if-at-eq20.false (sym c.has_bit-else-at-eq20.ensures ∙ c.if-has_bit-2.false)
