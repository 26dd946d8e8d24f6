-- The roots found, and those with a constant where the class holds one.
use Rattle.std.proofs.Common.{arith, sym, ◌∙◌}
use Rattle.branch.specs.Rows.{literal_count}
use Rattle.step.proofs.Joining.{apart_fixed, apart_free}
use Rattle.step.proofs.apart.Goals as goal

pub returns-then-has_bit : goal.returns-then-has_bit
returns-then-has_bit c = apart_fixed _ _ c.requires (omega arith) (omega arith) _ (λ h. rw c.literals_of.ensures at c.gathered-found.ensures literal_count h (omega arith)) (sym c.has_bit.ensures ∙ c.if-has_bit.true)

pub returns : goal.returns
returns c = apart_free _ _ c.requires (omega arith) (omega arith) _ (λ h. rw c.literals_of.ensures at c.gathered-found.ensures literal_count h (omega arith)) (sym c.has_bit.ensures ∙ c.if-has_bit.false)
