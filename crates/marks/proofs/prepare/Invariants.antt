-- The words have the entries of each constraint before i and its bit at what its rules need, and no later constraint's.
use Rattle.marks.proofs.Marking.{Filled}
use Rattle.marks.proofs.prepare.Given as goal

abbrev pub invariant-loop-i : goal.invariant-loop-i
invariant-loop-i l = Filled l.problem.bytes.now l.entries l.marks l.i
