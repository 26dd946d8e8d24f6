-- The bytes are the record of the first t terms, then zeros.
use Rattle.std.proofs.Common.{◌≡◌}
use Rattle.calculus.specs.Limits.{most_terms}
use Rattle.calculus.specs.Forms.{record_length}
use Rattle.branch.specs.Held.{held}
use Rattle.branch.proofs.Recording.{recorded}
use Rattle.branch.proofs.Branch.record.Given as goal

abbrev pub invariant-loop-t : goal.invariant-loop-t
invariant-loop-t l = l.bytes ≡ recorded (held l.fn.self) (record_length most_terms) l.t
