-- What `letters_at` refuses is refused, and so are more than 8 sets.
use Rattle.std.proofs.Common.{refl, arith, leb}
use borrow.Author.Tests.{le-leb, lt-leb}
use Rattle.std.proofs.lemmas.Result.{err_from_is_err_and}
use Rattle.calculus.specs.Limits.{most_sets}
use Rattle.problem.proofs.SectionLaws.{asked_none, asked_yes, asked_no, sets_asked}
use Rattle.problem.proofs.sections.sets_at.Goals as goal

pub returns-in_err-letters : goal.returns-in_err-letters
returns-in_err-letters c =
    let p = err_from_is_err_and c.from_residual.result c.from_residual.ensures.1 in
    rw (sets_asked c.new.ensures.start c.new.ensures.end c.args.bytes.now, p.1, p.2) (asked_none 1 5 (λ n xs. leb n most_sets) _ _ c.in_err-letters.ensures)

pub returns-then-letters-gt-MOST_SETS : goal.returns-then-letters-gt-MOST_SETS
returns-then-letters-gt-MOST_SETS c =
    rw (sets_asked c.new.ensures.start c.new.ensures.end c.args.bytes.now) (asked_no 1 5 (λ n xs. leb n most_sets) _ _ c.in_ok-letters.ensures _ refl (λ n h. lt-leb n most_sets (omega (arith, h))))

pub returns : goal.returns
returns c =
    rw (sets_asked c.new.ensures.start c.new.ensures.end c.args.bytes.now) (asked_yes 1 5 (λ n xs. leb n most_sets) _ _ c.in_ok-letters.ensures (λ n h. le-leb n most_sets (omega (arith, h))))
