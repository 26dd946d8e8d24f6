-- What `section_at` refuses is refused, else `constants_ok` decides.
use Rattle.std.proofs.Common.{refl, sym, ◌∙◌}
use Rattle.std.proofs.lemmas.Result.{err_from_is_err_and}
use Rattle.problem.specs.Sections.{section, counted, constants_test}
use Rattle.problem.proofs.SectionLaws.{asked_none, asked_yes, asked_no}
use Rattle.problem.proofs.sections.constants_at.Goals as goal

pub returns-in_err-constants : goal.returns-in_err-constants
unfolding section
returns-in_err-constants c =
    let p = err_from_is_err_and c.from_residual.result c.from_residual.ensures.1 in
    rw (p.1, p.2) (asked_none 2 3 constants_test (counted 2 c.args.bytes.now) _ c.in_err-constants.ensures)

pub returns-then-not-constants_ok : goal.returns-then-not-constants_ok
unfolding section
returns-then-not-constants_ok c =
    asked_no 2 3 constants_test (counted 2 c.args.bytes.now) _ c.in_ok-constants.ensures _ refl (λ n h. sym c.constants_ok.ensures ∙ c.if-not-constants_ok.true)

pub returns : goal.returns
unfolding section
returns c =
    asked_yes 2 3 constants_test (counted 2 c.args.bytes.now) _ c.in_ok-constants.ensures (λ n h. sym c.constants_ok.ensures ∙ c.if-not-constants_ok.false)
