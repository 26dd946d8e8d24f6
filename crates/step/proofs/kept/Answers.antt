-- Rule 20: the word is what is left at the first entry. Any other rule: a turn adds the bit of number c where its act does not conflict.
use Rattle.std.proofs.Common.{arith, ℕ, not, ap, ◌∙◌}
use Rattle.calculus.specs.Lists.{bit}
use Rattle.fits.proofs.FitLaws.{entries_below}
use Rattle.step.proofs.Acting.{rooted_below}
use Rattle.step.proofs.Turning.{kept_roots, number_there, numbers_none, numbers_more, taken_bit, left_bit, kept_numbers}
use Rattle.step.proofs.kept.Goals.{then-not-conflicts, else-not-conflicts}
use Rattle.step.proofs.kept.Goals as goal

-- ---- rule 20

pub entry_roots-requires : goal.entry_roots-requires
entry_roots-requires c = (rw c.entries.ensures (entries_below _ c.requires.placed.handled), c.requires.falls)

pub returns-then-at-eq20 : goal.returns-then-at-eq20
returns-then-at-eq20 c = kept_roots c.requires c.if-at-eq20.true _ _ (rw c.entries.ensures at c.entry_roots.ensures) (omega arith) c.apart.ensures

-- ---- any other rule

pub loop-c-init : goal.loop-c-init
loop-c-init c = numbers_none _ _

pub act_of-requires : goal.act_of-requires
act_of-requires c =
    let s = c.args in
    let q = c.requires in
    record { falls = q.falls; somewhere = (s.at.now.root.0, q.placed, number_there q c.if-at-eq20.false c.count_of-c-end.ensures (omega arith)); not_20 = c.if-at-eq20.false }

pub conflicts-requires : goal.conflicts-requires
conflicts-requires c =
    let q = c.requires in
    rooted_below _ _ (c.act_of.ensures.0 _ q.placed (number_there q c.if-at-eq20.false c.count_of-c-end.ensures (omega arith))).rooted

pub loop-c-preserved : goal.loop-c-preserved
loop-c-preserved c =
    let v = c.loop-c in
    let r = c.conflicts.result in
    numbers_more _ _ c.requires v.c v.found _ v.invariant (number_there c.requires c.if-at-eq20.false c.count_of-c-end.ensures (omega arith)) _ c.act_of.ensures.0 _ c.conflicts.ensures
    (λ m. elim c.if-not-conflicts.branch [
      | then-not-conflicts w ↦ ap (λ (n : ℕ). bit n m) w.found-is ∙ taken_bit v.c v.found _ m r (ap not w.if-not-conflicts.true) w.bit_at-found.ensures
      | else-not-conflicts w ↦ ap (λ (n : ℕ). bit n m) w.found-is ∙ left_bit v.c v.found m r (ap not w.if-not-conflicts.false)
    ])

pub returns : goal.returns
returns c = let v = c.loop-c in kept_numbers c.requires c.if-at-eq20.false c.count_of-c-end.ensures v.c _ v.auto.c-end c.loop-c-test.false v.invariant
