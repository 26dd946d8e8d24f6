-- What `section_at` refuses is refused, else `letters_ok` decides.
use Rattle.std.proofs.Common.{refl, sym, ◌∙◌}
use Rattle.std.proofs.lemmas.Result.{err_from_is_err_and}
use Rattle.std.specs.Range.{range_inclusive_start, range_inclusive_end}
use Rattle.questions.specs.Answers.{number_of}
use Rattle.problem.specs.Sections.{section, counted, letters_test}
use Rattle.problem.proofs.SectionLaws.{asked_none, asked_yes, asked_no}
use Rattle.problem.proofs.sections.letters_at.Goals as goal

pub returns-in_err-letters : goal.returns-in_err-letters
unfolding section
returns-in_err-letters c =
    let a = c.args in
    let p = err_from_is_err_and c.from_residual.result c.from_residual.ensures.1 in
    rw (p.1, p.2) (asked_none 1 (number_of a.no) (letters_test (range_inclusive_start a.range) (range_inclusive_end a.range)) (counted 1 a.bytes.now) _ c.in_err-letters.ensures)

pub returns-then-not-letters_ok : goal.returns-then-not-letters_ok
unfolding section
returns-then-not-letters_ok c =
    let a = c.args in
    asked_no 1 (number_of a.no) (letters_test (range_inclusive_start a.range) (range_inclusive_end a.range)) (counted 1 a.bytes.now) _ c.in_ok-letters.ensures _ refl (λ n h. sym c.letters_ok.ensures ∙ c.if-not-letters_ok.true)

pub returns : goal.returns
unfolding section
returns c =
    let a = c.args in
    asked_yes 1 (number_of a.no) (letters_test (range_inclusive_start a.range) (range_inclusive_end a.range)) (counted 1 a.bytes.now) _ c.in_ok-letters.ensures (λ n h. sym c.letters_ok.ensures ∙ c.if-not-letters_ok.false)
