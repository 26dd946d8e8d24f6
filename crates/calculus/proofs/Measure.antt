-- Classes and undecided facts: their number falls with every fact that was not known.
use mathlib.Core.Path.{◌≡◌, refl, sym, ◌∙◌, ap, subst}
use mathlib.Core.Logic.{◌⊎◌, inl, inr}
use mathlib.Core.Bool.{Bool, true, false, ◌&&◌, ◌||◌, cond}
use mathlib.Core.Option.{Option, some}
use mathlib.Core.List.{List}
use Prim.Native.Nat.{ℕ, zero, suc, ◌+◌, ◌*◌, ◌<◌, ◌≤◌, zero-le, suc-le-suc}
use native.Mathlib.Omega.{arith}
use native.Mathlib.Decide.{ℕ_discrete}
use native.Mathlib.Nat.{le_refl, suc-mul}
use lib.Dec.{eqb}
use borrow.Author.Tests.{eqb-true, eqb-false, eq-eqb, ne_eqb}
use Rattle.calculus.specs.Terms.{Term, SetVar, term, set_var}
use Rattle.calculus.proofs.AtNumber.{inside_at, outside_at, add_in, add_out, merge_at, torn_at, owns_at, merge_roots_at, set_eqb}
pub use Rattle.calculus.specs.Invariants.{sum_below, undecided, weight, measure}
use Rattle.calculus.specs.Branch.{Branch, root_at, Fact, In, Out, Same, known, assert}
use Rattle.calculus.proofs.Bools.{and_l, and_r, or_cases, or_l, or_r, test}
use Rattle.calculus.proofs.Walk.{moved, moved_hi, moved_other}
use Rattle.calculus.proofs.Asserting.{WellFormed, Ranged, Merges, already, upper, lower, merges, inside_add_inside, outside_add_inside, root_add_inside, inside_add_outside, outside_add_outside, root_add_outside, inside_merge, outside_merge, still, root_merge, conflict_if_some, root_below, root_in_insides, root_in_outsides}

pub sum_le : (n : ℕ) (f g : ℕ → ℕ) → ((t : ℕ) → t < n → f t ≤ g t) → sum_below n f ≤ sum_below n g
sum_le zero f g h = zero-le
sum_le (suc n) f g h = omega (arith, h n (omega arith), sum_le n f g (λ t l. h t (omega arith)))

pub sum_lt : (n : ℕ) (f g : ℕ → ℕ) → ((t : ℕ) → t < n → f t ≤ g t) → (i : ℕ) → i < n → f i < g i → sum_below n f < sum_below n g
sum_lt zero f g h i l p = omega arith
sum_lt (suc n) f g h i l p = go (ℕ_discrete i n) (λ q. sum_lt n f g (λ t l'. h t (omega arith)) i q p)
  where
    go : Dec (i ≡ n) → (i < n → sum_below n f < sum_below n g) → f n + sum_below n f < g n + sum_below n g
    go (yes e) ih = let p' : f n < g n = subst (λ (j : ℕ). f j < g j) e p in omega (arith, sum_le n f g (λ t l'. h t (omega arith)))
    go (no e) ih = omega (arith, h n (omega arith), ih (omega arith))

pub sum_const : (n c : ℕ) (f : ℕ → ℕ) → ((t : ℕ) → t < n → f t ≡ c) → sum_below n f ≡ n * c
sum_const zero c f h = omega arith
sum_const (suc n) c f h = omega (arith, h n (omega arith), sum_const n c f (λ t l. h t (omega arith)), suc-mul n c)

-- c knows what b knows of the class of t
abbrev Grows : Branch → Branch → ℕ → Type 0
Grows b c t = (A : SetVar) → (inside_at b t A || outside_at b t A) ≡ true → (inside_at c t A || outside_at c t A) ≡ true

open_le : (b c : Branch) (t : ℕ) (A : SetVar) → ((inside_at b t A || outside_at b t A) ≡ true → (inside_at c t A || outside_at c t A) ≡ true) → undecided c t A.index ≤ undecided b t A.index
open_le b c t A = go (inside_at b t A || outside_at b t A) (inside_at c t A || outside_at c t A)
  where
    go : (x y : Bool) → (x ≡ true → y ≡ true) → cond y 0 1 ≤ cond x 0 1
    go true y f = rw (f refl) zero-le
    go false true f = zero-le
    go false false f = le_refl 1

cond_le : (x y : Bool) (a b : ℕ) → (x ≡ true → y ≡ true) → a ≤ b → cond x a 0 ≤ cond y b 0
cond_le true y a b f h = rw (f refl) h
cond_le false y a b f h = zero-le

weight_le : (m : ℕ) (b c : Branch) (t : ℕ) → (root_at c t ≡ t → root_at b t ≡ t) → Grows b c t → weight m c t ≤ weight m b t
weight_le m b c t f g =
    cond_le (eqb (root_at c t) t) (eqb (root_at b t) t) (suc (sum_below m (undecided c t))) (suc (sum_below m (undecided b t)))
    (λ e. eq-eqb (root_at b t) t (f (eqb-true (root_at c t) t e)))
    (suc-le-suc (sum_le m (undecided c t) (undecided b t) (λ A l. open_le b c t (set_var A) (g (set_var A)))))

-- at a root whose fact on A is decided anew
weight_lt : (m : ℕ) (b c : Branch) (t : ℕ) → root_at c t ≡ t → root_at b t ≡ t → Grows b c t → (A : SetVar) → A.index < m → (inside_at b t A || outside_at b t A) ≡ false → (inside_at c t A || outside_at c t A) ≡ true → weight m c t < weight m b t
weight_lt m b c t hc hb g A l x y =
    rw (eq-eqb (root_at c t) t hc, eq-eqb (root_at b t) t hb)
    (suc-le-suc (sum_lt m (undecided c t) (undecided b t) (λ B l'. open_le b c t (set_var B) (g (set_var B))) A.index l (rw (x, y) (le_refl 1))))

module _ (n : ℕ) (k : List Term) (m : ℕ) (b : Branch) (F : WellFormed n k b) where
  -- put and bar
  add_inside_grows : (h : ℕ) (A : SetVar) (t : ℕ) → h < n → Grows b (add_in b h A) t
  add_inside_grows h A t l B e = rw (inside_add_inside b h A t B (rw F.sized_in l), outside_add_inside b h A t B) (go (or_cases (inside_at b t B) (outside_at b t B) e))
    where
      go : (inside_at b t B ≡ true) ⊎ (outside_at b t B ≡ true) → ((inside_at b t B || (eqb t h && eqb B.index A.index)) || outside_at b t B) ≡ true
      go (inl p) = rw p
      go (inr p) = or_r (inside_at b t B || (eqb t h && eqb B.index A.index)) p

  add_outside_grows : (h : ℕ) (A : SetVar) (t : ℕ) → h < n → Grows b (add_out b h A) t
  add_outside_grows h A t l B e = rw (outside_add_outside b h A t B (rw F.sized_out l), inside_add_outside b h A t B) (go (or_cases (inside_at b t B) (outside_at b t B) e))
    where
      go : (inside_at b t B ≡ true) ⊎ (outside_at b t B ≡ true) → (inside_at b t B || (outside_at b t B || (eqb t h && eqb B.index A.index))) ≡ true
      go (inl p) = rw p
      go (inr p) = or_r (inside_at b t B) (or_l (eqb t h && eqb B.index A.index) p)

  add_inside_le : (h : ℕ) (A : SetVar) → h < n → measure n m (add_in b h A) ≤ measure n m b
  add_inside_le h A l = sum_le n (weight m (add_in b h A)) (weight m b) (λ t q. weight_le m b (add_in b h A) t (λ e. sym (root_add_inside b h A t) ∙ e) (add_inside_grows h A t l))

  add_outside_le : (h : ℕ) (A : SetVar) → h < n → measure n m (add_out b h A) ≤ measure n m b
  add_outside_le h A l = sum_le n (weight m (add_out b h A)) (weight m b) (λ t q. weight_le m b (add_out b h A) t (λ e. sym (root_add_outside b h A t) ∙ e) (add_outside_grows h A t l))

  add_inside_lt : (h : ℕ) (A : SetVar) → h < n → A.index < m → root_at b h ≡ h → inside_at b h A ≡ false → outside_at b h A ≡ false → measure n m (add_in b h A) < measure n m b
  add_inside_lt h A l la e i o =
      sum_lt n (weight m (add_in b h A)) (weight m b) (λ t q. weight_le m b (add_in b h A) t (λ e. sym (root_add_inside b h A t) ∙ e) (add_inside_grows h A t l)) h l
      (weight_lt m b (add_in b h A) h (root_add_inside b h A h ∙ e) e (add_inside_grows h A h l) A la (rw (i, o)) (rw (inside_add_inside b h A h A (rw F.sized_in l), i, eq-eqb h h refl, eq-eqb A.index A.index refl)))

  add_outside_lt : (h : ℕ) (A : SetVar) → h < n → A.index < m → root_at b h ≡ h → inside_at b h A ≡ false → outside_at b h A ≡ false → measure n m (add_out b h A) < measure n m b
  add_outside_lt h A l la e i o =
      sum_lt n (weight m (add_out b h A)) (weight m b) (λ t q. weight_le m b (add_out b h A) t (λ e. sym (root_add_outside b h A t) ∙ e) (add_outside_grows h A t l)) h l
      (weight_lt m b (add_out b h A) h (root_add_outside b h A h ∙ e) e (add_outside_grows h A h l) A la (rw (i, o)) (or_r (inside_at (add_out b h A) h A) (rw (outside_add_outside b h A h A (rw F.sized_out l), o, eq-eqb h h refl, eq-eqb A.index A.index refl))))

  merge_lt : (lo hi : ℕ) → lo < hi → hi < n → root_at b lo ≡ lo → root_at b hi ≡ hi → measure n m (merge_at b lo hi) < measure n m b
  merge_lt lo hi l hn el eh =
      sum_lt n (weight m (merge_at b lo hi)) (weight m b) (λ t q. weight_le m b (merge_at b lo hi) t (back t) (grows t)) hi hn
      (rw (hh hi, eh, moved_hi lo hi, ne_eqb lo hi (omega arith), eq-eqb hi hi refl) (suc-le-suc zero-le))
    where
      hh : (t : ℕ) → root_at (merge_at b lo hi) t ≡ moved lo hi (root_at b t)
      hh t = root_merge n k b F lo hi l hn el eh t

      back : (t : ℕ) → root_at (merge_at b lo hi) t ≡ t → root_at b t ≡ t
      back t e = go (ℕ_discrete (root_at b t) hi)
        where
          go : Dec (root_at b t ≡ hi) → root_at b t ≡ t
          go (yes p) = let z : lo ≡ t = sym (moved_hi lo hi) ∙ ap (moved lo hi) (sym p) ∙ sym (hh t) ∙ e in absurd (let w : lo ≡ hi = sym el ∙ ap (root_at b) z ∙ p in omega arith)
          go (no p) = sym (moved_other lo hi (root_at b t) p) ∙ sym (hh t) ∙ e

      grows : (t : ℕ) → Grows b (merge_at b lo hi) t
      grows t B e = rw (inside_merge b lo hi t B (rw F.sized_in (omega arith)), outside_merge b lo hi t B (rw F.sized_out (omega arith))) (go (or_cases (inside_at b t B) (outside_at b t B) e))
        where
          go : (inside_at b t B ≡ true) ⊎ (outside_at b t B ≡ true) → ((inside_at b t B || (eqb t lo && inside_at b hi B)) || (outside_at b t B || (eqb t lo && outside_at b hi B))) ≡ true
          go (inl p) = rw p
          go (inr p) = or_r (inside_at b t B || (eqb t lo && inside_at b hi B)) (or_l (eqb t lo && outside_at b hi B) p)

  merge_roots_lt : (t u : ℕ) → t < n → u < n → root_at b t < root_at b u → (c : Branch) → merge_roots_at k b (root_at b t) (root_at b u) ≡ some c → measure n m c < measure n m b
  merge_roots_lt t u ht hu l c q =
      subst (λ (d : Branch). measure n m d < measure n m b) (conflict_if_some ((owns_at k b (root_at b t) && owns_at k b (root_at b u)) || torn_at (merge_at b (root_at b t) (root_at b u)) (root_at b t)) (merge_at b (root_at b t) (root_at b u)) c q).1
      (merge_lt (root_at b t) (root_at b u) l (root_below n k m b F u hu) (still n k b F t) (still n k b F u))

  eq_lt : (t u : ℕ) → t < n → u < n → (o : Option Branch) → Merges k b t u o → (c : Branch) → o ≡ some c → eqb (root_at b t) (root_at b u) ≡ false → measure n m c < measure n m b
  eq_lt t u ht hu o (already h) c q e = absurd (eqb-false (root_at b t) (root_at b u) e h)
  eq_lt t u ht hu o (upper h) c q e = merge_roots_lt t u ht hu h c q
  eq_lt t u ht hu o (lower h) c q e = merge_roots_lt u t hu ht h c q

  -- a fact that was not known
  pub assert_falls : (f : Fact) → Ranged n m f → known b f ≡ false → (c : Branch) → assert k b f ≡ some c → measure n m c < measure n m b
  unfolding assert
  assert_falls (In t A) r e c q =
      let w = conflict_if_some (known b (Out t A)) (add_in b (root_at b t.index) A) c q in
      subst (λ (d : Branch). measure n m d < measure n m b) w.1 (add_inside_lt (root_at b t.index) A (root_below n k m b F t.index r.0) r.1 (still n k b F t.index) e w.0)
  assert_falls (Out t A) r e c q =
      let w = conflict_if_some (known b (In t A)) (add_out b (root_at b t.index) A) c q in
      subst (λ (d : Branch). measure n m d < measure n m b) w.1 (add_outside_lt (root_at b t.index) A (root_below n k m b F t.index r.0) r.1 (still n k b F t.index) w.0 e)
  assert_falls (Same t u) r e c q = eq_lt t.index u.index r.0 r.1 (assert k b (Same t u)) (merges k b t.index u.index) c q e

  -- a fact that was known changes nothing that the branch knows
  or_absorb : (a p : Bool) → (p ≡ true → a ≡ true) → (a || p) ≡ a
  or_absorb true p f = refl
  or_absorb false true f = sym (f refl)
  or_absorb false false f = refl

  add_inside_same : (t : ℕ) (A : SetVar) → t < n → known b (In (term t) A) ≡ true → (g : Fact) → known (add_in b (root_at b t) A) g ≡ known b g
  add_inside_same t A l e (In u B) = rw (root_add_inside b (root_at b t) A u.index, inside_add_inside b (root_at b t) A (root_at b u.index) B (root_in_insides n k m b F t l))
      (or_absorb (inside_at b (root_at b u.index) B) (eqb (root_at b u.index) (root_at b t) && eqb B.index A.index)
      (λ p. rw (eqb-true (root_at b u.index) (root_at b t) (and_l (eqb (root_at b u.index) (root_at b t)) (eqb B.index A.index) p), set_eqb B A (and_r (eqb (root_at b u.index) (root_at b t)) (eqb B.index A.index) p)) e))
  add_inside_same t A l e (Out u B) = rw (root_add_inside b (root_at b t) A u.index, outside_add_inside b (root_at b t) A (root_at b u.index) B)
  add_inside_same t A l e (Same x y) = rw (root_add_inside b (root_at b t) A x.index, root_add_inside b (root_at b t) A y.index)

  add_outside_same : (t : ℕ) (A : SetVar) → t < n → known b (Out (term t) A) ≡ true → (g : Fact) → known (add_out b (root_at b t) A) g ≡ known b g
  add_outside_same t A l e (Out u B) = rw (root_add_outside b (root_at b t) A u.index, outside_add_outside b (root_at b t) A (root_at b u.index) B (root_in_outsides n k m b F t l))
      (or_absorb (outside_at b (root_at b u.index) B) (eqb (root_at b u.index) (root_at b t) && eqb B.index A.index)
      (λ p. rw (eqb-true (root_at b u.index) (root_at b t) (and_l (eqb (root_at b u.index) (root_at b t)) (eqb B.index A.index) p), set_eqb B A (and_r (eqb (root_at b u.index) (root_at b t)) (eqb B.index A.index) p)) e))
  add_outside_same t A l e (In u B) = rw (root_add_outside b (root_at b t) A u.index, inside_add_outside b (root_at b t) A (root_at b u.index) B)
  add_outside_same t A l e (Same x y) = rw (root_add_outside b (root_at b t) A x.index, root_add_outside b (root_at b t) A y.index)

  eq_same : (t u : ℕ) → root_at b t ≡ root_at b u → (o : Option Branch) → Merges k b t u o → (c : Branch) → o ≡ some c → b ≡ c
  eq_same t u h o (already _) c q = cc
  eq_same t u h o (upper l) c q = absurd (omega arith)
  eq_same t u h o (lower l) c q = absurd (omega arith)

  pub assert_same : (f : Fact) → Ranged n m f → known b f ≡ true → (c : Branch) → assert k b f ≡ some c → (g : Fact) → known c g ≡ known b g
  unfolding assert
  assert_same (In t A) r e c q g = subst (λ (d : Branch). known d g ≡ known b g) (conflict_if_some (known b (Out t A)) (add_in b (root_at b t.index) A) c q).1 (add_inside_same t.index A r.0 e g)
  assert_same (Out t A) r e c q g = subst (λ (d : Branch). known d g ≡ known b g) (conflict_if_some (known b (In t A)) (add_out b (root_at b t.index) A) c q).1 (add_outside_same t.index A r.0 e g)
  assert_same (Same t u) r e c q g = subst (λ (d : Branch). known d g ≡ known b g) (eq_same t.index u.index (eqb-true (root_at b t.index) (root_at b u.index) e) (assert k b (Same t u)) (merges k b t.index u.index) c q) refl

  assert_le_known : (f : Fact) → Ranged n m f → known b f ≡ true → (c : Branch) → assert k b f ≡ some c → measure n m c ≤ measure n m b
  unfolding assert
  assert_le_known (In t A) r e c q = subst (λ (d : Branch). measure n m d ≤ measure n m b) (conflict_if_some (known b (Out t A)) (add_in b (root_at b t.index) A) c q).1 (add_inside_le (root_at b t.index) A (root_below n k m b F t.index r.0))
  assert_le_known (Out t A) r e c q = subst (λ (d : Branch). measure n m d ≤ measure n m b) (conflict_if_some (known b (In t A)) (add_out b (root_at b t.index) A) c q).1 (add_outside_le (root_at b t.index) A (root_below n k m b F t.index r.0))
  assert_le_known (Same t u) r e c q = subst (λ (d : Branch). measure n m d ≤ measure n m b) (eq_same t.index u.index (eqb-true (root_at b t.index) (root_at b u.index) e) (assert k b (Same t u)) (merges k b t.index u.index) c q) (le_refl (measure n m b))

  pub assert_le : (f : Fact) → Ranged n m f → (c : Branch) → assert k b f ≡ some c → measure n m c ≤ measure n m b
  assert_le f r c q = go (test (known b f))
    where
      go : (known b f ≡ true) ⊎ (known b f ≡ false) → measure n m c ≤ measure n m b
      go (inl e) = assert_le_known f r e c q
      go (inr e) = omega (arith, assert_falls f r e c q)
