-- A constraint of the problem is one of the most, and stands where its line says.
use Rattle.std.proofs.Common.{arith}
use Rattle.problem.proofs.Access.{placed, stands}
use Rattle.problem.proofs.accepted.Problem.entries.Goals as goal

pub offset_bounds-self-i : goal.offset_bounds-self-i
offset_bounds-self-i c =
    let p = c.args.self.now in
    omega (arith, (placed p.bytes.now p.table c.args.i p.opened c.requires.0).small)

pub bounds-self-i : goal.bounds-self-i
bounds-self-i c =
    let p = c.args.self.now in
    (placed p.bytes.now p.table c.args.i p.opened c.requires.0).small

pub entries-requires : goal.entries-requires
entries-requires c =
    let p = c.args.self.now in
    (stands p.bytes.now p.table c.args.i p.opened c.requires.0, c.requires.1)
