-- Letters pass where they ascend and each is in the range.
use Rattle.std.proofs.Common.{arith, ltb, refl, ◌∙◌}
use Rattle.std.proofs.lemmas.Iterator.{YieldsList-from_slice}
use Rattle.std.proofs.lemmas.Iterator.Search.{all_from_yields_List}
use Rattle.std.proofs.lemmas.List.Sorted.{answers_always}
use Rattle.std.specs.Range.{range_inclusive_start, range_inclusive_end}
use Rattle.std.specs.List.{list_all}
use Rattle.questions.proofs.Letters.{within, letters_are}
use Rattle.questions.proofs.letters_ok.Goals as goal

pub returns-then-is_sorted_by : goal.returns-then-is_sorted_by
returns-then-is_sorted_by c =
    let a = c.args in
    let test = within (range_inclusive_start a.range) (range_inclusive_end a.range) in
    let sorted = c.is_sorted_by.ensures.cases ltb (answers_always _ _ _ (λ f x r g k. grind arith)) in
    rw c.if-is_sorted_by.true at (letters_are _ _ a.part.now _ _ sorted (all_from_yields_List test _ _ _ c.all.ensures.ran (YieldsList-from_slice a.part.now cc) (λ x b q k. grind arith)))

pub returns-else-is_sorted_by : goal.returns-else-is_sorted_by
returns-else-is_sorted_by c =
    let a = c.args in
    let test = within (range_inclusive_start a.range) (range_inclusive_end a.range) in
    let sorted = c.is_sorted_by.ensures.cases ltb (answers_always _ _ _ (λ f x r g k. grind arith)) in
    c.if-is_sorted_by.false ∙ rw c.if-is_sorted_by.false at (letters_are _ _ a.part.now _ (list_all test a.part.now) sorted refl)
