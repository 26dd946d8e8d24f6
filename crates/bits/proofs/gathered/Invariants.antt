-- What is found, and what the bits that are left gather, is what all gather.
use Rattle.bits.proofs.Gathering.{Gathering}
use Rattle.bits.proofs.gathered.Given as goal

abbrev pub invariant-loop-k : goal.invariant-loop-k
invariant-loop-k l = Gathering l.words l.which l.found l.k-iterator.0
