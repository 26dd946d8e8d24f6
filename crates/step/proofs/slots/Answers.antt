-- Rule 20 has its entries as children, any other rule what its row has.
use Rattle.std.proofs.Common.{length, sym, ap, ◌∙◌}
use Rattle.step.proofs.Children.{slots_20, slots_other}
use Rattle.step.proofs.slots.Goals as goal

pub returns-then-at-eq20 : goal.returns-then-at-eq20
returns-then-at-eq20 c = ap length c.entries.ensures ∙ sym (slots_20 _ _ c.if-at-eq20.true)

pub returns : goal.returns
returns c = c.count_of.ensures ∙ sym (slots_other _ _ c.if-at-eq20.false)
