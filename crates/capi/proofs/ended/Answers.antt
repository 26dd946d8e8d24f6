-- Each arm's verdict is that of the end that it matches.
use Rattle.std.proofs.Common.{arith}
use Rattle.calculus.specs.Calls.{answer_word}
use Rattle.capi.proofs.Calling.{some_forms}
use Rattle.capi.proofs.ended.Goals as goal
use Rattle.capi.proofs.ended.Goals.{in-Err-Spent, in-Err-NoRoom, in-Ok, in-Ok-2}

pub returns : goal.returns
unfolding answer_word
returns c =
    elim c.match-run.branch [
      | in-Err-Spent w ↦ let q = rw w.in-Err-Spent.is at w.in-Err-Spent.field-0-is in rw (c.from.ensures, w.verdict-is, w.in-Err-Spent.is, q) (omega arith)
      | in-Err-NoRoom w ↦ let q = rw w.in-Err-NoRoom.is at w.in-Err-NoRoom.field-0-is in rw (c.from.ensures, w.verdict-is, w.in-Err-NoRoom.is, q) (omega arith)
      | in-Ok w ↦ rw (c.from.ensures, w.verdict-is, w.in-Ok.is, w.if-run-eq0.true) (omega arith)
      | in-Ok-2 w ↦ rw (c.from.ensures, w.verdict-is, w.in-Ok.is, some_forms _ w.if-run-eq0.false) (omega arith)
    ]
