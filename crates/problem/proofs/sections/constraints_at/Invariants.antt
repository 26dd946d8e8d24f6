-- What answers the rest, stored from the next line on, answers all.
use Rattle.std.proofs.Common.{◌≡◌, ◌+◌, ◌*◌, ◌≤◌, length}
use Rattle.calculus.specs.Reading.{words}
use Rattle.problem.proofs.ConstraintSteps.{Ends}
use Rattle.problem.proofs.sections.constraints_at.Given as goal

abbrev pub invariant-loop-line : goal.invariant-loop-line
invariant-loop-line l =
    (l.length ≤ length l.bytes) × (l.terms ≤ l.names.nameable + 255 * l.line-index) × (length l.line-items ≡ l.m)
    × Ends (words l.names.constants.now) l.names.nameable l.names.sets l.bytes l.at l.m l.length l.terms l.line-index l.line-items
