-- The word has what the propagation rules before the next one need.
use Rattle.constraints.specs.Decoded.{decoded}
use Rattle.marks.proofs.Needing.{Before}
use Rattle.marks.proofs.needed.Given as goal

abbrev pub invariant-loop-j : goal.invariant-loop-j
invariant-loop-j l = Before (decoded l.l) l.j-iterator.start l.j-iterator.end l.found
