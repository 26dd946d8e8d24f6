-- A problem's sets are few.
use Rattle.std.proofs.Common.{arith}
use Rattle.problem.proofs.Access.{opened_sizes}
use Rattle.checker.proofs.seen.Seen.members.Goals as goal

pub bounds-self-a : goal.bounds-self-a
bounds-self-a c = let p = c.args.self.now.problem in omega (arith, (opened_sizes p.bytes.now p.table p.opened).1)
