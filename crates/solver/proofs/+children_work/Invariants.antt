-- Each call leaves less to do: what remains of the branch, twice, and one more for a branch not yet split. A branch's loop keeps that its propagation steps reach the branch as it is; the children's loop keeps that the children so far were worked as they should be, and that the word has those that are left.
use Rattle.std.proofs.Common.{◌*◌, ◌+◌}
use Rattle.calculus.specs.Run.{DONE}
use Rattle.records.specs.State.{written, SameBuffers}
use Rattle.solver.specs.ComesTo.{remaining, Ready}
use Rattle.solver.proofs.Settling.{Reached}
use Rattle.solver.proofs.Workers.{Worked}
use Rattle.solver.proofs.+children_work.Given as goal

abbrev pub decreases-children : goal.decreases-children
decreases-children l = let p = l.run.now.prepared.problem in remaining p.bytes.now p.table l.b.now * 2

abbrev pub decreases-work : goal.decreases-work
decreases-work l = let p = l.run.now.prepared.problem in remaining p.bytes.now p.table l.next.now * 2 + 1

abbrev pub invariant-children-loop-k : goal.invariant-children-loop-k
invariant-children-loop-k l = let p = l.run.prepared.problem in record {
  worked : Worked p.bytes.now p.table l.run.budget l.b l.split.found (written l.initial.out DONE) l.k l.left (written l.out DONE);
  same : SameBuffers l.initial.out l.out;
}

abbrev pub invariant-work-loop-found : goal.invariant-work-loop-found
invariant-work-loop-found l = let p = l.run.prepared.problem in record {
  reached : Reached p.bytes.now p.table l.run.budget l.initial.at (written l.initial.out DONE) l.at (written l.out DONE);
  ready : Ready p.bytes.now p.table l.at l.wake l.ripe;
  same : SameBuffers l.initial.out l.out;
}

abbrev pub decreases-work-loop-found : goal.decreases-work-loop-found
decreases-work-loop-found l = let p = l.run.prepared.problem in remaining p.bytes.now p.table l.at
