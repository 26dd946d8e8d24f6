-- What was dropped is idle, and what is left to test is of the problem.
use Rattle.std.proofs.Common.{◌≡◌, true, ℕ, ◌<◌}
use Rattle.calculus.specs.Lists.{bit}
use Rattle.search.specs.Narrowed.{Narrows}
use Rattle.search.proofs.looked_at.Given as goal

abbrev pub invariant-loop-n : goal.invariant-loop-n
invariant-loop-n l = record {
  narrows : Narrows l.scope.split l.run.problem.bytes.now l.b.parents l.b.rows l.scope.among l.kept;
  there : (i : ℕ) → bit l.n-iterator.0 i ≡ true → i < l.run.problem.table.constraints;
}
