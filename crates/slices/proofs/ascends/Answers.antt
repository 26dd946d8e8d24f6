-- Each pair is below the next, as signed numbers.
use Rattle.std.proofs.Common.{arith}
use Rattle.std.proofs.lemmas.List.Sorted.{answers_always}
use Rattle.slices.proofs.Ascending.{below, ascending_is}
use Rattle.slices.proofs.ascends.Goals as goal

pub returns : goal.returns
returns c = ascending_is _ _ (rw c.as_chunks.ensures.front at c.is_sorted_by.ensures.cases below (answers_always _ _ _ (λ f a r g k. grind arith)))
