-- Masks stay below 2 ^ m, m the count of sets: they fit their bytes.
use mathlib.Core.Path.{◌≡◌, sym, subst}
use mathlib.Core.Option.{Option, some}
use mathlib.Core.List.{List}
use Prim.Native.Nat.{ℕ, ◌^◌, ◌<◌}
use native.Mathlib.Omega.{arith}
use native.Mathlib.Decide.{ℕ_discrete, dec_lt}
use mathlib.Core.Bool.{◌&&◌, ◌||◌}
use lib.ListN.{length, get_or, set, replicate}
use lib.Seq.{get_or-set_same, get_or-set_other, set_out}
use lib.Bits.{bit_or, or_lt}
use lib.Pow.{pow-lt, pow_pos}
use Rattle.calculus.specs.Terms.{Term, SetVar}
use Rattle.calculus.proofs.AtNumber.{add_in, add_out, merge_at, torn_at, owns_at}
use Rattle.calculus.specs.Branch.{Branch, start, root_at, Fact, In, Out, Same, known, add_inside, add_outside, merge, assert}
use Rattle.calculus.proofs.Asserting.{Merges, already, upper, lower, merges, conflict_if_some, Ranged}
use Rattle.calculus.proofs.Sequences.{zeros}

abbrev Below : ℕ → List ℕ → Type 0
Below m l = (h : ℕ) → get_or l h 0 < 2 ^ m

pub record Small (m : ℕ) (b : Branch) : Type 0 where
  pub insides : Below m b.insides
  pub outsides : Below m b.outsides

below_set : (m : ℕ) (l : List ℕ) (i x : ℕ) → Below m l → x < 2 ^ m → Below m (set l i x)
below_set m l i x s q h = go (ℕ_discrete h i) (dec_lt i (length l))
  where
    go : Dec (h ≡ i) → Dec (i < length l) → get_or (set l i x) h 0 < 2 ^ m
    go (no n) _ = rw (get_or-set_other l i h x 0 n) (s h)
    go (yes e) (yes k) = rw (e, get_or-set_same l i x 0 k) q
    go (yes e) (no k) = rw (set_out l i x (omega arith)) (s h)

module _ (m : ℕ) (b : Branch) (s : Small m b) where
  add_inside_small : (h : ℕ) (A : SetVar) → A.index < m → Small m (add_in b h A)
  unfolding add_inside
  add_inside_small h A l = record { insides = below_set m b.insides h (bit_or (get_or b.insides h 0) (2 ^ A.index)) s.insides (or_lt m (get_or b.insides h 0) (2 ^ A.index) (s.insides h) (pow-lt l)); outsides = s.outsides }

  add_outside_small : (h : ℕ) (A : SetVar) → A.index < m → Small m (add_out b h A)
  unfolding add_outside
  add_outside_small h A l = record { insides = s.insides; outsides = below_set m b.outsides h (bit_or (get_or b.outsides h 0) (2 ^ A.index)) s.outsides (or_lt m (get_or b.outsides h 0) (2 ^ A.index) (s.outsides h) (pow-lt l)) }

  merge_small : (lo hi : ℕ) → Small m (merge_at b lo hi)
  unfolding merge
  merge_small lo hi = record {
    insides = below_set m b.insides lo (bit_or (get_or b.insides lo 0) (get_or b.insides hi 0)) s.insides (or_lt m (get_or b.insides lo 0) (get_or b.insides hi 0) (s.insides lo) (s.insides hi));
    outsides = below_set m b.outsides lo (bit_or (get_or b.outsides lo 0) (get_or b.outsides hi 0)) s.outsides (or_lt m (get_or b.outsides lo 0) (get_or b.outsides hi 0) (s.outsides lo) (s.outsides hi));
  }

  same_small : (k : List Term) (t u : ℕ) (o : Option Branch) → Merges k b t u o → (c : Branch) → o ≡ some c → Small m c
  same_small k t u o (already h) c q = let z : b ≡ c = cc in subst (Small m) z s
  same_small k t u o (upper h) c q = subst (Small m) (conflict_if_some ((owns_at k b (root_at b t) && owns_at k b (root_at b u)) || torn_at (merge_at b (root_at b t) (root_at b u)) (root_at b t)) (merge_at b (root_at b t) (root_at b u)) c q).1 (merge_small (root_at b t) (root_at b u))
  same_small k t u o (lower h) c q = subst (Small m) (conflict_if_some ((owns_at k b (root_at b u) && owns_at k b (root_at b t)) || torn_at (merge_at b (root_at b u) (root_at b t)) (root_at b u)) (merge_at b (root_at b u) (root_at b t)) c q).1 (merge_small (root_at b u) (root_at b t))

  pub assert_small : (n : ℕ) (k : List Term) (f : Fact) → Ranged n m f → (c : Branch) → assert k b f ≡ some c → Small m c
  unfolding assert
  assert_small n k (In t A) r c q = subst (Small m) (conflict_if_some (known b (Out t A)) (add_in b (root_at b t.index) A) c q).1 (add_inside_small (root_at b t.index) A r.1)
  assert_small n k (Out t A) r c q = subst (Small m) (conflict_if_some (known b (In t A)) (add_out b (root_at b t.index) A) c q).1 (add_outside_small (root_at b t.index) A r.1)
  assert_small n k (Same t u) r c q = same_small k t.index u.index (assert k b (Same t u)) (merges k b t.index u.index) c q

pub start_small : (n m : ℕ) → Small m (start n)
unfolding start
start_small n m = record { insides = below; outsides = below }
  where
    below : Below m (replicate n 0)
    below h = subst (λ (x : ℕ). x < 2 ^ m) (sym (zeros n h)) (pow_pos m)
