-- Each return is what the definition reads of a constraint of that kind; without a kind byte, or with an unknown kind, both refuse.
use Rattle.std.proofs.Common.{arith, sym}
use Rattle.std.proofs.lemmas.Result.{err_from_is_err_and}
use Rattle.questions.proofs.Parts.{no_kind, unknown_kind, refused_operands, few_operands, read_operands}
use Rattle.questions.proofs.constraint_at.Goals as goal

pub returns-in_default : goal.returns-in_default
returns-in_default c = no_kind _ _ _ c.args.bytes.now c.in_default.ensures.cases

pub returns-in_err-kind : goal.returns-in_err-kind
returns-in_err-kind c =
    let p = err_from_is_err_and c.from_residual.result c.from_residual.ensures.1 in
    rw (p.1, p.2, c.in_err-kind.ensures.0) (unknown_kind _ _ _ _ _ _ c.in-Some.ensures.cases.0 c.in_err-kind.ensures.1)

pub returns-in_err-length : goal.returns-in_err-length
returns-in_err-length c =
    let p = err_from_is_err_and c.from_residual-in_err-length.result c.from_residual-in_err-length.ensures.1 in
    rw (p.1, p.2) (refused_operands _ _ _ _ _ _ c.in-Some.ensures.cases.0 c.in_ok-kind.kind c.in_ok-kind.ensures _ (sym c.in_err-length.ensures))

pub overflow_add-result : goal.overflow_add-result
overflow_add-result c = omega (arith, few_operands _ _ _ _ _ _ c.in-Some.ensures.cases.0 c.in_ok-kind.kind c.in_ok-kind.ensures _ (sym c.in_ok-length.ensures), c.in-Some.ensures.cases.1)

pub returns : goal.returns
returns c = read_operands _ _ _ _ _ _ c.in-Some.ensures.cases.0 c.in_ok-kind.kind c.in_ok-kind.ensures _ (sym c.in_ok-length.ensures) _ c.eq.ensures
