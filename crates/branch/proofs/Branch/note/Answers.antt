-- The branch is the definition, once its calls are put in.
use Rattle.std.proofs.Common.{arith, get_or-set_same}
use Rattle.branch.specs.Held.{noting}
use Rattle.branch.proofs.Branch.note.Goals as goal

pub returns : goal.returns
unfolding noting
returns c =
    let b = c.args.self in
    let h = c.args.h.0 in
    rw (c.turn_words.ensures, c.bit_at.ensures, c.literals_of.ensures, get_or-set_same b.insides h _ 0 (omega arith), get_or-set_same b.outsides h _ 0 (omega arith))
