-- A note and a merge each grow a branch. With the constraints that it can wake added to a mask, those left out stay idle.
use mathlib.Core.Path.{◌≡◌, refl, sym, ap, ◌∙◌}
use mathlib.Core.Logic.{inl, inr}
use mathlib.Core.Bool.{Bool, true, false, ◌&&◌, ◌||◌}
use mathlib.Core.List.{List}
use Prim.Native.Nat.{ℕ, ◌<◌, ◌≤◌}
use native.Mathlib.Omega.{arith}
use lib.ListN.{length, get_or}
use lib.Dec.{eqb}
use lib.Bits.{bit_or}
use borrow.Author.Tests.{eqb-true}
use Rattle.calculus.specs.Limits.{most_sets, most_terms}
use Rattle.calculus.specs.Lists.{bit}
use Rattle.calculus.specs.Terms.{Term}
use Rattle.calculus.specs.Meaning.{Constraint}
use Rattle.calculus.specs.Branch.{root_at}
use Rattle.calculus.specs.Branch as calculus
use Rattle.calculus.specs.Invariants.{ConstraintIn}
use Rattle.calculus.proofs.Bools.{or_none_l, or_none_r, clash}
use Rattle.calculus.proofs.Masks.{bit_of_or, bit_zero}
use Rattle.problem.specs.Table.{no_constraint}
use Rattle.branch.specs.declared.Branch.{Branch}
use Rattle.branch.specs.Rows.{literal_known, literals, literal_count}
use Rattle.branch.specs.Held.{held, noting, merging, Sound}
use Rattle.branch.proofs.Rowing.{noted_known, merged_root, merged_known}
use Rattle.quiet.specs.Quiet.{Quiet, pairs, WordsOf, pair_mark}
use Rattle.quiet.proofs.Growing.{Grows, moved_none}
use Rattle.quiet.proofs.Keeping.{Spared, idle_kept}

-- the words of constraints that are in range
pub record Watched (n : ℕ) (ls : List Constraint) (entries marks : List ℕ) : Type 0 where
  pub words_are : WordsOf ls entries marks
  pub in_range : (i : ℕ) → i < length ls → ConstraintIn n most_sets (get_or ls i no_constraint)
  pub few : n ≤ most_terms

-- a literal that was known there adds nothing
absorbed : (x y z w : Bool) → (y ≡ true → w ≡ x) → (x || (y && z)) ≡ (x || (y && (z || w)))
absorbed true y z w f = refl
absorbed false false z w f = refl
absorbed false true true w f = refl
absorbed false true false w f = sym (f refl)

unless : (x : Bool) {y : Bool} → (x ≡ true → y ≡ true) → y ≡ false → x ≡ false
unless true f e = clash (f refl) e
unless false f e = refl

module _ {cs : List Term} {b : Branch} (s : Sound cs b) where
  pub noted_grows : {h : ℕ} (ins outs : ℕ) → h < most_terms → root_at (held b) h ≡ h → Grows (held b) (held (noting b h ins outs).branch) h h (literals ins outs)
  unfolding root_at noting
  noted_grows {h} ins outs l e = record {
    roots = λ t. sym (moved_none h (root_at (held b) t));
    facts = λ k j. noted_known cs b s.good h ins outs l k j ∙ absorbed (literal_known (held b) k j) (eqb j h) (bit (literals ins outs) k) (literal_known (held b) k h) (λ q. ap (literal_known (held b) k) (sym (eqb-true j h q)));
    low_root = e;
    high_root = e;
  }

  pub merged_grows : {lo hi : ℕ} → lo < hi → hi < most_terms → root_at (held b) lo ≡ lo → root_at (held b) hi ≡ hi → Grows (held b) (held (merging b lo hi).branch) lo hi 0
  merged_grows {lo} {hi} l h el eh = record {
    roots = merged_root cs b s.good s.rowed lo hi l h el eh;
    facts = λ k j. merged_known cs b s.good s.rowed lo hi l h el eh k j ∙ ap (λ (x : Bool). literal_known (held b) k j || (eqb j lo && (x || literal_known (held b) k hi))) (sym (bit_zero k));
    low_root = el;
    high_root = eh;
  }

module _ {n : ℕ} {ls : List Constraint} {entries marks : List ℕ} (d : Watched n ls entries marks) (split : Bool) (mask woken : ℕ) where
  -- a constraint that is not woken is spared
  quiet_kept : {b c : calculus.Branch} {lo hi word : ℕ} → Grows b c lo hi word → ((i : ℕ) → i < length ls → bit woken i ≡ false → Spared n (get_or ls i no_constraint) lo hi word) → Quiet split n ls b mask → Quiet split n ls c (bit_or mask woken)
  quiet_kept g f q i l e =
      let z : (bit mask i || bit woken i) ≡ false = sym (bit_of_or mask woken i) ∙ e in
      idle_kept g (f i l (or_none_r (bit mask i) (bit woken i) z)) split (q i l (or_none_l (bit mask i) (bit woken i) z))

  module _ {cs : List Term} {b : Branch} (s : Sound cs b) where
    pub quiet_noted : {h : ℕ} (ins outs : ℕ) → h < most_terms → root_at (held b) h ≡ h → ((k i : ℕ) → k < literal_count → bit (literals ins outs) k ≡ true → bit (get_or marks k 0) i ≡ true → bit woken i ≡ true)
        → Quiet split n ls (held b) mask → Quiet split n ls (held (noting b h ins outs).branch) (bit_or mask woken)
    quiet_noted ins outs l e f = quiet_kept (noted_grows s ins outs l e) (λ i li q. record {
      in_range = d.in_range i li;
      unneeded = λ j k lk o r. unless (bit (literals ins outs) k) (λ p. f k i lk p (d.words_are.needing i li j k o r)) q;
      unpaired = λ j o. inl refl;
    })

    pub quiet_merged : {lo hi : ℕ} → lo < hi → hi < n → root_at (held b) lo ≡ lo → root_at (held b) hi ≡ hi → ((i : ℕ) → bit (get_or marks pair_mark 0) i ≡ true → bit woken i ≡ true)
        → Quiet split n ls (held b) mask → Quiet split n ls (held (merging b lo hi).branch) (bit_or mask woken)
    quiet_merged l h el eh f = quiet_kept (merged_grows s l (omega (arith, d.few)) el eh) (λ i li q. record {
      in_range = d.in_range i li;
      unneeded = λ j k lk o r. bit_zero k;
      unpaired = λ j o. inr (h, unless (pairs (get_or ls i no_constraint) j) (λ r. f i (d.words_are.paired i li j o r)) q);
    })
