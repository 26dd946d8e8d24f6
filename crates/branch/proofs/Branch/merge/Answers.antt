-- The branch is the definition, once its calls are put in.
use Rattle.std.proofs.Common.{arith, get_or-set_same}
use Rattle.branch.specs.Held.{merging}
use Rattle.branch.proofs.Branch.merge.Goals as goal
use Rattle.branch.proofs.Branch.merge.Goals.{then-both, else-both}

pub returns : goal.returns
unfolding merging
returns c =
    let b = c.args.self in
    let l = c.args.lo.0 in
    elim c.if-both.branch [
      | then-both w ↦ rw (w.conflict-is, c.carried.ensures, c.turn_words.ensures, c.bit_at-2.ensures, c.bit_at.ensures, c.literals_of.ensures, ← c.both.ensures, w.if-both.true)
      | else-both w ↦
          rw (w.conflict-is, c.carried.ensures, c.turn_words.ensures, c.bit_at-2.ensures, c.bit_at.ensures, c.literals_of.ensures, ← c.both.ensures, w.if-both.false, get_or-set_same b.insides l _ 0 (omega arith), get_or-set_same b.outsides l _ 0 (omega arith))
    ]
