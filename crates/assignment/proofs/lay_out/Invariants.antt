-- As many sets are laid out, they stand in the bytes, and reading the assignment is reading what is left.
use Rattle.std.proofs.Common.{map}
use Rattle.assignment.proofs.Layouts.{Standing}
use Rattle.assignment.proofs.lay_out.Given as goal

abbrev pub invariant-loop-part : goal.invariant-loop-part
invariant-loop-part l = Standing l.bytes l.variables l.sets l.values (map (λ m. m.now) l.part-items) l.part-index l.rest
