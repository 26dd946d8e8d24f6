-- A constraint of the problem is one of the most.
use Rattle.std.proofs.Common.{arith}
use Rattle.problem.proofs.Access.{placed}
use Rattle.problem.proofs.accepted.Problem.from.Goals as goal

pub offset_bounds-self-i : goal.offset_bounds-self-i
offset_bounds-self-i c =
    let p = c.args.self.now in
    omega (arith, (placed p.bytes.now p.table c.args.i p.opened c.requires).small)

pub bounds-self-i : goal.bounds-self-i
bounds-self-i c =
    let p = c.args.self.now in
    (placed p.bytes.now p.table c.args.i p.opened c.requires).small
