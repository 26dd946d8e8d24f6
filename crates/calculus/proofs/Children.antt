-- Asserting a list of facts, and the children of a step.
use mathlib.Core.Path.{◌≡◌, refl, sym, ◌∙◌, subst}
use mathlib.Core.Logic.{◌⊎◌, inl, inr}
use mathlib.Core.Bool.{true, false, true≢false, false≢true}
use mathlib.Core.Option.{Option, none, some}
use mathlib.Core.List.{List, [], ◌∷◌}
use Prim.Native.Nat.{ℕ, ◌<◌, ◌≤◌}
use native.Mathlib.Omega.{arith}
use Rattle.calculus.specs.Terms.{Term}
use Rattle.calculus.specs.Lists.{all, any, Each, Some, here, there, picked}
use Rattle.calculus.specs.Meaning.{Valuation}
use Rattle.calculus.specs.Branch.{Branch, Fact, known, assert, assert_all}
use Rattle.calculus.proofs.Bools.{and_l, and_r, or_cases, test, all_cong}
use Rattle.calculus.proofs.Truth.{truth, Sat, Distinct}
use Rattle.calculus.proofs.Asserting.{WellFormed, Ranged, assert_keeps, assert_stops}
use Rattle.calculus.proofs.Keeping.{assert_fit}
use Rattle.calculus.proofs.Measure.{measure, assert_falls, assert_same, assert_le}

module _ (n : ℕ) (k : List Term) (m : ℕ) where
  -- facts that are true of values that satisfy the branch: asserting them gives a branch that they satisfy
  module _ (v : Valuation) (d : Distinct k v) where
    pub asserts_keep : (fs : List Fact) → Each (Ranged n m) fs → all (truth v) fs ≡ true → (b : Branch) → WellFormed n k b → Sat v b → (c : Branch) × (assert_all k b fs ≡ some c) × Sat v c
    asserts_keep [] r e b F s = (b, refl, s)
    asserts_keep (f ∷ fs) r e b F s = go (assert k b f) refl (asserts_keep fs r.1 (and_r (truth v f) (all (truth v) fs) e))
      where
        ef : truth v f ≡ true
        ef = and_l (truth v f) (all (truth v) fs) e

        go : (o : Option Branch) → assert k b f ≡ o → ((c : Branch) → WellFormed n k c → Sat v c → (d : Branch) × (assert_all k c fs ≡ some d) × Sat v d) → (c : Branch) × (assert_all k b (f ∷ fs) ≡ some c) × Sat v c
        go none q ih = absurd (assert_stops n k m b F v s d f r.0 ef q)
        go (some c) q ih =
            let w = ih c (assert_fit n k b F m f r.0 c q) (assert_keeps n k m b F v s f r.0 ef c q) in
            (w.0, rw (q, assert_all) w.1, w.2)

  pub asserts_fit : (fs : List Fact) → Each (Ranged n m) fs → (b : Branch) → WellFormed n k b → (c : Branch) → assert_all k b fs ≡ some c → WellFormed n k c × (measure n m c ≤ measure n m b)
  asserts_fit [] r b F c e = let z : b ≡ c = cc in (subst (WellFormed n k) z F, subst (λ (x : Branch). measure n m x ≤ measure n m b) z (omega arith))
  asserts_fit (f ∷ fs) r b F c e = go (assert k b f) refl (asserts_fit fs r.1)
    where
      go : (o : Option Branch) → assert k b f ≡ o → ((d : Branch) → WellFormed n k d → (c : Branch) → assert_all k d fs ≡ some c → WellFormed n k c × (measure n m c ≤ measure n m d)) → WellFormed n k c × (measure n m c ≤ measure n m b)
      go none q ih = let z : ◌≡◌ {A = Option Branch} none (some c) = rw (q, assert_all) at e in let w : false ≡ true = cc in absurd (false≢true w)
      go (some d) q ih =
          let w = ih d (assert_fit n k b F m f r.0 d q) c (rw (q, assert_all) at e) in
          (w.0, omega (arith, w.1, assert_le n k m b F f r.0 d q))

  -- facts that are not all known
  pub asserts_fall : (fs : List Fact) → Each (Ranged n m) fs → (b : Branch) → WellFormed n k b → all (known b) fs ≡ false → (c : Branch) → assert_all k b fs ≡ some c → measure n m c < measure n m b
  asserts_fall [] r b F a c e = absurd (true≢false a)
  asserts_fall (f ∷ fs) r b F a c e = go (assert k b f) refl (test (known b f)) (asserts_fall fs r.1)
    where
      go : (o : Option Branch) → assert k b f ≡ o → (known b f ≡ true) ⊎ (known b f ≡ false) → ((d : Branch) → WellFormed n k d → all (known d) fs ≡ false → (c : Branch) → assert_all k d fs ≡ some c → measure n m c < measure n m d) → measure n m c < measure n m b
      go none q t ih = let z : ◌≡◌ {A = Option Branch} none (some c) = rw (q, assert_all) at e in let w : false ≡ true = cc in absurd (false≢true w)
      go (some d) q (inr p) ih =
          omega (arith, (asserts_fit fs r.1 d (assert_fit n k b F m f r.0 d q) c (rw (q, assert_all) at e)).1, assert_falls n k m b F f r.0 p d q)
      go (some d) q (inl p) ih =
          let a' : all (known d) fs ≡ false = all_cong (known d) (known b) fs (assert_same n k m b F f r.0 p d q) ∙ (rw p at a) in
          omega (arith, ih d (assert_fit n k b F m f r.0 d q) a' c (rw (q, assert_all) at e), assert_le n k m b F f r.0 d q)

  -- the children of a step
  pub children_sat : (v : Valuation) → Distinct k v → (b : Branch) → WellFormed n k b → Sat v b
      → (gs : List (List Fact)) → Each (λ g. Each (Ranged n m) g) gs → any (all (truth v)) gs ≡ true → Some (Sat v) (picked (assert_all k b) gs)
  children_sat v d b F s [] r e = absurd (false≢true e)
  children_sat v d b F s (g ∷ gs) r e = go (or_cases (all (truth v) g) (any (all (truth v)) gs) e) (assert_all k b g) refl (children_sat v d b F s gs r.1)
    where
      go : (all (truth v) g ≡ true) ⊎ (any (all (truth v)) gs ≡ true) → (o : Option Branch) → assert_all k b g ≡ o → (any (all (truth v)) gs ≡ true → Some (Sat v) (picked (assert_all k b) gs)) → Some (Sat v) (picked (assert_all k b) (g ∷ gs))
      go (inl p) none q ih = let w = asserts_keep v d g r.0 p b F s in let x : ◌≡◌ {A = Option Branch} none (some w.0) = sym q ∙ w.1 in let y : false ≡ true = cc in absurd (false≢true y)
      go (inl p) (some c) q ih =
          let w = asserts_keep v d g r.0 p b F s in
          let x : some w.0 ≡ some c = sym w.1 ∙ q in
          let z : w.0 ≡ c = cc in
          rw (q, picked) (here (subst (Sat v) z w.2))
      go (inr p) none q ih = rw (q, picked) (ih p)
      go (inr p) (some c) q ih = rw (q, picked) (there (ih p))

  pub children_fit : (b : Branch) → WellFormed n k b → (gs : List (List Fact)) → Each (λ g. Each (Ranged n m) g) gs → Each (λ g. all (known b) g ≡ false) gs
      → Each (λ c. WellFormed n k c × (measure n m c < measure n m b)) (picked (assert_all k b) gs)
  children_fit b F [] r a = tt
  children_fit b F (g ∷ gs) r a = go (assert_all k b g) refl (children_fit b F gs r.1 a.1)
    where
      go : (o : Option Branch) → assert_all k b g ≡ o → Each (λ c. WellFormed n k c × (measure n m c < measure n m b)) (picked (assert_all k b) gs) → Each (λ c. WellFormed n k c × (measure n m c < measure n m b)) (picked (assert_all k b) (g ∷ gs))
      go none q ih = rw (q, picked) ih
      go (some c) q ih = rw (q, picked) (((asserts_fit g r.0 b F c q).0, asserts_fall g r.0 b F a.0 c q), ih)
