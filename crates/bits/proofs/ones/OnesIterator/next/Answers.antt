-- The lowest bit, and the word without it.
use Rattle.std.proofs.Common.{arith}
use Rattle.bits.proofs.Taking.{takes_lowest}
use Rattle.bits.proofs.ones.OnesIterator.next.Goals as goal

pub returns-clause-steps : goal.returns-clause-steps
returns-clause-steps c = takes_lowest _ (omega arith) c.if-word-eq0.false
