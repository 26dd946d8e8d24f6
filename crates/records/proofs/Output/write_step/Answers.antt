-- The step's four bytes are put after the others, and it is counted.
use Rattle.std.proofs.Common.{add-one}
use Rattle.records.proofs.Output.write_step.Goals as goal

pub returns-clause-writes : goal.returns-clause-writes
returns-clause-writes c = rw (c.put.ensures, add-one)
