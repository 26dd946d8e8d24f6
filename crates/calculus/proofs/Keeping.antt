-- Asserting a fact keeps a branch sound.
use mathlib.Core.Path.{◌≡◌, refl, sym, ◌∙◌, ap, subst}
use mathlib.Core.Bool.{Bool, true, false, ◌&&◌, ◌||◌, or-false, and_comm}
use mathlib.Core.Option.{Option, some}
use mathlib.Core.List.{List}
use Prim.Native.Nat.{ℕ, ◌^◌, ◌<◌}
use native.Mathlib.Omega.{arith}
use native.Mathlib.Decide.{ℕ_discrete}
use lib.ListN.{get_or, length-set}
use lib.Dec.{eqb}
use lib.Bits.{bit_or}
use borrow.Author.Tests.{eqb-true, ne_eqb}
use Rattle.calculus.specs.Terms.{Term, SetVar}
use Rattle.calculus.proofs.AtNumber.{inside_at, outside_at, add_in, add_out, merge_at, torn_at, owns_at, merge_roots_at, set_eqb}
use Rattle.calculus.specs.Branch.{Branch, root_at, Fact, In, Out, Same, known, add_inside, add_outside, merge, assert}
use Rattle.calculus.proofs.Bools.{and_l, and_r, and_i, or_none_l, or_none_r, clash}
use Rattle.calculus.proofs.Truth.{Is}
use Rattle.calculus.proofs.Walk.{moved, moved_hi, moved_other, set_falls}
use Rattle.calculus.proofs.Asserting.{owning, WellFormed, Ranged, Merges, already, upper, lower, merges, inside_add_inside, outside_add_inside, root_add_inside, inside_add_outside, outside_add_outside, root_add_outside, inside_merge, outside_merge, below, still, root, root_merge, torn_none, conflict_if_some}

-- one more bit on one side, where the other side has it not
one_more : (i o p : Bool) → (i && o) ≡ false → (p ≡ true → o ≡ false) → ((i || p) && o) ≡ false
one_more true o p e f = e
one_more false o true e f = f refl
one_more false o false e f = refl

module _ (n : ℕ) (k : List Term) (b : Branch) (F : WellFormed n k b) where
  add_inside_fit : (h : ℕ) (A : SetVar) → h < n → outside_at b h A ≡ false → WellFormed n k (add_in b h A)
  unfolding add_inside
  add_inside_fit h A l e = record {
    sized = F.sized;
    sized_in = length-set b.insides h (bit_or (get_or b.insides h 0) (2 ^ A.index)) ∙ F.sized_in;
    sized_out = F.sized_out;
    falls = F.falls;
    lone = λ i j p q e. F.lone i j p q (sym (root_add_inside b h A i) ∙ e ∙ root_add_inside b h A j);
    clean = λ j B. rw (inside_add_inside b h A j B (rw F.sized_in l), outside_add_inside b h A j B)
        (one_more (inside_at b j B) (outside_at b j B) (eqb j h && eqb B.index A.index) (F.clean j B)
        (λ p. rw (eqb-true j h (and_l (eqb j h) (eqb B.index A.index) p), set_eqb B A (and_r (eqb j h) (eqb B.index A.index) p)) e));
  }

  add_outside_fit : (h : ℕ) (A : SetVar) → h < n → inside_at b h A ≡ false → WellFormed n k (add_out b h A)
  unfolding add_outside
  add_outside_fit h A l e = record {
    sized = F.sized;
    sized_in = F.sized_in;
    sized_out = length-set b.outsides h (bit_or (get_or b.outsides h 0) (2 ^ A.index)) ∙ F.sized_out;
    falls = F.falls;
    lone = λ i j p q e. F.lone i j p q (sym (root_add_outside b h A i) ∙ e ∙ root_add_outside b h A j);
    clean = λ j B. rw (inside_add_outside b h A j B, outside_add_outside b h A j B (rw F.sized_out l), and_comm (inside_at b j B))
        (one_more (outside_at b j B) (inside_at b j B) (eqb j h && eqb B.index A.index) (and_comm (outside_at b j B) (inside_at b j B) ∙ F.clean j B)
        (λ p. rw (eqb-true j h (and_l (eqb j h) (eqb B.index A.index) p), set_eqb B A (and_r (eqb j h) (eqb B.index A.index) p)) e));
  }

  module _ (lo hi : ℕ) (l : lo < hi) (hn : hi < n) (hk : (owns_at k b lo && owns_at k b hi) ≡ false) (hl : root_at b lo ≡ lo) (hu : root_at b hi ≡ hi) (nt : torn_at (merge_at b lo hi) lo ≡ false) where
    hh : (t : ℕ) → root_at (merge_at b lo hi) t ≡ moved lo hi (root_at b t)
    hh t = root_merge n k b F lo hi l hn hl hu t

    merge_clean : (j : ℕ) (B : SetVar) → (inside_at (merge_at b lo hi) j B && outside_at (merge_at b lo hi) j B) ≡ false
    merge_clean j B = go (ℕ_discrete j lo)
      where
        go : Dec (j ≡ lo) → (inside_at (merge_at b lo hi) j B && outside_at (merge_at b lo hi) j B) ≡ false
        go (yes e) = rw e (torn_none (merge_at b lo hi) lo nt B)
        go (no e) = rw (inside_merge b lo hi j B (rw F.sized_in (omega arith)), outside_merge b lo hi j B (rw F.sized_out (omega arith)), ne_eqb j lo e, or-false (inside_at b j B), or-false (outside_at b j B)) (F.clean j B)

    -- not both classes hold a constant
    not_both : (i j : ℕ) → Is k i → Is k j → root_at b i ≡ hi → root_at b j ≡ lo → ⊥
    not_both i j p q x y = clash (and_i (owning b k lo j q y) (owning b k hi i p x)) hk

    merge_lone : (i j : ℕ) → Is k i → Is k j → root_at (merge_at b lo hi) i ≡ root_at (merge_at b lo hi) j → i ≡ j
    merge_lone i j p q e = go (ℕ_discrete (root_at b i) hi) (ℕ_discrete (root_at b j) hi)
      where
        z : moved lo hi (root_at b i) ≡ moved lo hi (root_at b j)
        z = sym (hh i) ∙ e ∙ hh j

        go : Dec (root_at b i ≡ hi) → Dec (root_at b j ≡ hi) → i ≡ j
        go (yes x) (yes y) = F.lone i j p q (x ∙ sym y)
        go (yes x) (no y) = absurd (not_both i j p q x (sym (moved_other lo hi (root_at b j) y) ∙ sym z ∙ ap (moved lo hi) x ∙ moved_hi lo hi))
        go (no x) (yes y) = absurd (not_both j i q p y (sym (moved_other lo hi (root_at b i) x) ∙ z ∙ ap (moved lo hi) y ∙ moved_hi lo hi))
        go (no x) (no y) = F.lone i j p q (sym (moved_other lo hi (root_at b i) x) ∙ z ∙ moved_other lo hi (root_at b j) y)

    merge_fit : WellFormed n k (merge_at b lo hi)
    unfolding merge
    merge_fit = record {
      sized = length-set b.parents hi lo ∙ F.sized;
      sized_in = length-set b.insides lo (bit_or (get_or b.insides lo 0) (get_or b.insides hi 0)) ∙ F.sized_in;
      sized_out = length-set b.outsides lo (bit_or (get_or b.outsides lo 0) (get_or b.outsides hi 0)) ∙ F.sized_out;
      falls = set_falls b.parents F.falls lo hi l (rw F.sized hn) (root n k b F lo hl) (root n k b F hi hu);
      lone = merge_lone;
      clean = merge_clean;
    }

  merge_roots_fit : (t u : ℕ) → t < n → u < n → root_at b t < root_at b u → (c : Branch) → merge_roots_at k b (root_at b t) (root_at b u) ≡ some c → WellFormed n k c
  merge_roots_fit t u ht hu l c q =
      let w = conflict_if_some ((owns_at k b (root_at b t) && owns_at k b (root_at b u)) || torn_at (merge_at b (root_at b t) (root_at b u)) (root_at b t)) (merge_at b (root_at b t) (root_at b u)) c q in
      subst (WellFormed n k) w.1
      (merge_fit (root_at b t) (root_at b u) l (omega (arith, below n k b F u)) (or_none_l (owns_at k b (root_at b t) && owns_at k b (root_at b u)) (torn_at (merge_at b (root_at b t) (root_at b u)) (root_at b t)) w.0) (still n k b F t) (still n k b F u)
      (or_none_r (owns_at k b (root_at b t) && owns_at k b (root_at b u)) (torn_at (merge_at b (root_at b t) (root_at b u)) (root_at b t)) w.0))

  same_fit : (t u : ℕ) → t < n → u < n → (o : Option Branch) → Merges k b t u o → (c : Branch) → o ≡ some c → WellFormed n k c
  same_fit t u ht hu o (already h) c q = let z : b ≡ c = cc in subst (WellFormed n k) z F
  same_fit t u ht hu o (upper h) c q = merge_roots_fit t u ht hu h c q
  same_fit t u ht hu o (lower h) c q = merge_roots_fit u t hu ht h c q

  pub assert_fit : (m : ℕ) (f : Fact) → Ranged n m f → (c : Branch) → assert k b f ≡ some c → WellFormed n k c
  unfolding assert
  assert_fit m (In t A) r c q =
      let w = conflict_if_some (known b (Out t A)) (add_in b (root_at b t.index) A) c q in
      subst (WellFormed n k) w.1 (add_inside_fit (root_at b t.index) A (omega (arith, below n k b F t.index)) w.0)
  assert_fit m (Out t A) r c q =
      let w = conflict_if_some (known b (In t A)) (add_out b (root_at b t.index) A) c q in
      subst (WellFormed n k) w.1 (add_outside_fit (root_at b t.index) A (omega (arith, below n k b F t.index)) w.0)
  assert_fit m (Same t u) r c q = same_fit t.index u.index r.0 r.1 (assert k b (Same t u)) (merges k b t.index u.index) c q
