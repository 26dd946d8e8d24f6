-- The word is the definition, by whether the bit is set.
use Rattle.branch.specs.Rows.{carry}
use Rattle.branch.proofs.carried.Goals as goal

pub returns-then-has_bit : goal.returns-then-has_bit
unfolding carry
returns-then-has_bit c = rw (c.turned.ensures, c.bit_at.ensures, c.bit_at-then-has_bit.ensures, ← c.has_bit.ensures, c.if-has_bit.true)

pub returns : goal.returns
unfolding carry
returns c = rw (← c.has_bit.ensures, c.if-has_bit.false)
