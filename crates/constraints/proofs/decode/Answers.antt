-- The line of constraint i says where it stands and what its witness is.
use Rattle.std.proofs.Common.{arith}
use Rattle.constraints.proofs.Decoding.{stands_there}
use Rattle.constraints.proofs.decode.Goals as goal

pub offset_bounds-problem-i : goal.offset_bounds-problem-i
offset_bounds-problem-i c = omega (arith, (stands_there _ _ _ c.args.problem.now.opened c.requires).0)

pub bounds-problem-i : goal.bounds-problem-i
bounds-problem-i c = (stands_there _ _ _ c.args.problem.now.opened c.requires).0

pub decode_at-requires : goal.decode_at-requires
decode_at-requires c = let s = stands_there _ _ _ c.args.problem.now.opened c.requires in (s.1, s.2)
