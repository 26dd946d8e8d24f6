-- A turn reads one constraint, and the returns rest on one that is refused, or on none being left.
use Rattle.std.proofs.Common.{arith, ◌∙◌}
use lib.ListN.{length-set}
use Rattle.std.proofs.lemmas.Result.{err_from_is_err_and}
use Rattle.calculus.specs.Reading.{words}
use Rattle.problem.proofs.ConstraintSteps.{tail_is, first_lines, one_refused, one_read, ends_all, ends_more, rest_refused}
use Rattle.problem.proofs.sections.constraints_at.Goals as goal

pub loop-line-init : goal.loop-line-init
loop-line-init c =
    let a = c.args in
    let n = a.names.now in
    (omega arith, omega arith, first_lines a.m c.requires.1, ends_all (words n.constants.now) n.nameable n.sets a.bytes.now a.at a.m n.rising c.requires.2 c.requires.1)

pub returns-in_err-one : goal.returns-in_err-one
returns-in_err-one c =
    let a = c.args in
    let n = a.names.now in
    let v = c.loop-line in
    let p = err_from_is_err_and c.from_residual.result c.from_residual.ensures.1 in
    let e = one_refused (words n.constants.now) n.nameable n.sets a.bytes.now v.length v.terms _ (rw (tail_is a.bytes.now v.length) at c.in_err-one.ensures) in
    v.invariant.3 _ (rw (p.1, p.2) (rest_refused (words n.constants.now) n.nameable n.sets a.bytes.now a.at a.m v.length v.terms v.line-index v.line-items _ e (omega (arith, v.invariant.2))))

pub loop-line-preserved : goal.loop-line-preserved
loop-line-preserved c =
    let a = c.args in
    let n = a.names.now in
    let v = c.loop-line in
    let h = one_read (words n.constants.now) n.nameable n.sets a.bytes.now v.length v.terms n.rising c.requires.2 _ (rw (tail_is a.bytes.now v.length) at c.in_ok-one.ensures) v.invariant.0 in
    (h.fits, omega arith, length-set v.line-items v.line-index _ ∙ v.invariant.2, ends_more (words n.constants.now) n.nameable n.sets a.bytes.now a.at a.m v.length v.terms v.line-index v.line-items _ h (omega (arith, v.invariant.2)) v.invariant.3)
