-- The two bytes of a constant are there.
use Rattle.std.proofs.Common.{arith}
use Rattle.problem.proofs.Access.{constant_read}
use Rattle.problem.proofs.accepted.Problem.constant.Goals as goal

pub word-requires : goal.word-requires
word-requires c =
    let p = c.args.self.now in
    omega (arith, constant_read p.bytes.now p.table c.args.t.0 p.opened c.requires)
