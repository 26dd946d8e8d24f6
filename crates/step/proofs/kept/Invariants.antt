-- The bits found are the children below number c that there are.
use Rattle.step.proofs.Turning.{Numbers}
use Rattle.step.proofs.kept.Given as goal

abbrev pub invariant-loop-c : goal.invariant-loop-c
invariant-loop-c l = Numbers l.b l.at l.c l.found
