-- Refused as `operands_at` refuses, else by question 9 unless both terms are constants and `gapless_ok` says yes.
use Rattle.std.proofs.Common.{arith, true, false, sym, refl, ◌∙◌, lt-ltb, le-ltb}
use Rattle.std.proofs.lemmas.Result.{err_from_is_err_and}
use Rattle.questions.proofs.Returns.{operands_there, interval_refused, interval_is}
use Rattle.questions.proofs.interval_at.Goals as goal
use Rattle.questions.proofs.interval_at.Goals.{else-i-constants-via-then-i-constants+then-j-constants+else-gapless_ok, else-i-constants-via-then-i-constants+else-j-constants, else-i-constants-via-else-i-constants}

pub returns-in_err-length : goal.returns-in_err-length
returns-in_err-length c =
    let p = err_from_is_err_and c.from_residual.result c.from_residual.ensures.1 in
    rw (p.1, p.2) (interval_refused c.args.names.now.constants.now _ _ _ _ c.operands_at.ensures _ c.in_err-length.was)

pub bounds-bytes-1 : goal.bounds-bytes-1
bounds-bytes-1 c = omega (arith, operands_there _ _ _ c.in_ok-length.ensures)

pub bounds-bytes-2 : goal.bounds-bytes-2
bounds-bytes-2 c = omega (arith, operands_there _ _ _ c.in_ok-length.ensures)

pub returns-then-gapless_ok : goal.returns-then-gapless_ok
returns-then-gapless_ok c = interval_is c.args.names.now.constants.now _ _ _ _ c.operands_at.ensures _ c.in_ok-length.was true true true (lt-ltb _ _ c.if-i-constants.true) (lt-ltb _ _ c.if-j-constants.true) (sym c.gapless_ok.ensures ∙ c.if-gapless_ok.true)

pub returns : goal.returns
returns c = elim c.else-i-constants.branch [
  | else-i-constants-via-then-i-constants+then-j-constants+else-gapless_ok w ↦ interval_is c.args.names.now.constants.now _ _ _ _ c.operands_at.ensures _ c.in_ok-length.was true true false (lt-ltb _ _ w.if-i-constants.true) (lt-ltb _ _ w.if-j-constants.true) (sym w.gapless_ok.ensures ∙ w.if-gapless_ok.false)
  | else-i-constants-via-then-i-constants+else-j-constants w ↦ interval_is c.args.names.now.constants.now _ _ _ _ c.operands_at.ensures _ c.in_ok-length.was true false _ (lt-ltb _ _ w.if-i-constants.true) (le-ltb _ _ w.if-j-constants.false) refl
  | else-i-constants-via-else-i-constants w ↦ interval_is c.args.names.now.constants.now _ _ _ _ c.operands_at.ensures _ c.in_ok-length.was false _ _ (le-ltb _ _ w.if-i-constants.false) refl refl
]
