-- The words gathered are those of the literals.
use Rattle.std.proofs.Common.{arith}
use Rattle.branch.specs.Rows.{literal_count}
use Rattle.marks.proofs.woken.Goals as goal

pub returns : goal.returns
returns c i = rw c.literals_of.ensures at c.gathered.ensures literal_count i (omega arith)
