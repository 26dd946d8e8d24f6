-- A relation's return rests on the loop over its propagation rules, and on whether it has a split.
use Rattle.std.proofs.Common.{arith}
use Rattle.std.proofs.lemmas.Map.Keys.{ge_from_not_lt}
use Rattle.calculus.proofs.Bools.{not_t}
use Rattle.constraints.proofs.Decoding.{list_set}
use Rattle.marks.proofs.Needing.{premises_asked, needs_start, needs_next, no_split, with_split, listed_needs}
use Rattle.marks.proofs.needed.Goals as goal

pub loop-j-init : goal.loop-j-init
loop-j-init c = rw (c.into_iter-j-iterator.ensures.into_iter_gives, c.rules-j-items.ensures.0, c.rules-j-items.ensures.1, c.in-Related.is) (needs_start _ _ (rw c.in-Related.is at c.span_of.ensures))

pub premises-found-requires : goal.premises-found-requires
premises-found-requires c =
    let t = c.in-Some.ensures.steps in
    rw t.1.1 (premises_asked _ _ (rw c.in-Related.is at c.loop-j.invariant) (rw c.in-Related.is at c.requires) (omega (arith, t.1.0)))

pub loop-j-preserved : goal.loop-j-preserved
loop-j-preserved c =
    let t = c.in-Some.ensures.steps in
    rw (t.0, t.1.2, c.in-Related.is) (needs_next _ _ (rw c.in-Related.is at c.loop-j.invariant) (rw t.1.1 at c.premises-found.ensures))

pub returns-then-not-is_empty : goal.returns-then-not-is_empty
returns-then-not-is_empty c = rw c.in-Related.is (with_split _ _ (rw c.in-Related.is at c.loop-j.invariant) (omega (arith, c.in-None.ensures.steps.1.0)) (rw c.in-Related.is at c.span_of-in-Related.ensures) (rw c.in-Related.is at c.requires) c.split_of.ensures c.bit_at-then-not-is_empty.ensures c.bit_at-then-not-is_empty-2.ensures)

pub returns-else-not-is_empty : goal.returns-else-not-is_empty
returns-else-not-is_empty c = rw c.in-Related.is (no_split _ _ (rw c.in-Related.is at c.loop-j.invariant) (omega (arith, c.in-None.ensures.steps.1.0)) (rw c.in-Related.is at c.span_of-in-Related.ensures) (ge_from_not_lt _ _ (not_t _ (rw (c.is_empty.ensures, c.rules.ensures.0, c.rules.ensures.1) at c.if-not-is_empty.false))))

pub returns-in-Listed : goal.returns-in-Listed
returns-in-Listed c = rw c.in-Listed.is (listed_needs _ (list_set c.in-Listed.is c.requires) c.bit_at-in-Listed.ensures c.bit_at-in-Listed-2.ensures c.bit_at-in-Listed-3.ensures c.in-Listed.field-2)
