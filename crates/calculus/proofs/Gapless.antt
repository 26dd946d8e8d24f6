-- Question 9: of rising constants, the test passes exactly where every whole number between two of them is one of them.
use mathlib.Core.Path.{◌≡◌, sym, ◌∙◌, ap, subst}
use mathlib.Core.Logic.{◌⊎◌, inl, inr}
use mathlib.Core.Bool.{true}
use mathlib.Core.List.{List}
use Prim.Native.Nat.{ℕ, zero, suc, ◌+◌, ◌-◌, ◌<◌, ◌≤◌}
use native.Mathlib.Omega.{arith}
use native.Mathlib.Decide.{dec_lt}
use lib.ListN.{length, get_or}
use lib.IntN.{ℤ, pos, suc_ℤ}
use lib.Signed.{◌≤ℤ◌, ◌<ℤ◌, <ℤ-≤ℤ_trans, clash_ℤ}
use Rattle.calculus.specs.Lists.{up_from, Each}
use Rattle.calculus.specs.Meaning.{◌∈◌}
use Rattle.calculus.specs.Reading.{eq_z, gapless}
use Rattle.calculus.specs.Problem.{Rising}
use Rattle.calculus.proofs.Bools.{each_all, all_each, each_imp}
use Rattle.calculus.proofs.Membership.{eq_z_eq, eq_eq_z}
use Rattle.calculus.proofs.Integers.{lt_suc, suc_le, le_cases, lt_le, ≤ℤ-trans, rising_le, le_rising}
use Rattle.calculus.proofs.Sequences.{up_each, get_d_in, place_of}

module _ (cs : List ℤ) where
  abbrev At : ℕ → ℤ
  At p = get_or cs p (pos 0)

  -- the test, as equations
  abbrev Steps : ℕ → ℕ → Type 0
  Steps i d = Each (λ p. At (suc p) ≡ suc_ℤ (At p)) (up_from i d)

  fill : (d i : ℕ) → i + d < length cs → Steps i d → (x : ℤ) → At i ≤ℤ x → x ≤ℤ At (i + d) → x ∈ cs
  fill zero i l g x lo hi = go (le_cases (At i) x lo)
    where
      go : (At i ≡ x) ⊎ (At i <ℤ x) → x ∈ cs
      go (inl e) = subst (λ (y : ℤ). y ∈ cs) e (get_d_in cs i (omega arith))
      go (inr t) = let z : i + 0 ≡ i = omega arith in clash_ℤ t (subst (λ (j : ℕ). x ≤ℤ At j) z hi)
  fill (suc d) i l g x lo hi = go (le_cases (At i) x lo) (fill d (suc i) (omega arith) g.1 x)
    where
      go : (At i ≡ x) ⊎ (At i <ℤ x) → (At (suc i) ≤ℤ x → x ≤ℤ At (suc i + d) → x ∈ cs) → x ∈ cs
      go (inl e) ih = subst (λ (y : ℤ). y ∈ cs) e (get_d_in cs i (omega arith))
      go (inr t) ih = let z : i + suc d ≡ suc i + d = omega arith in ih (rw g.0 (suc_le (At i) x t)) (subst (λ (j : ℕ). x ≤ℤ At j) z hi)

  module _ (up : Rising cs) (i j : ℕ) (li : i < length cs) (lj : j < length cs) where
    pub gapless_fills : gapless cs i j ≡ true → (x : ℤ) → At i ≤ℤ x → x ≤ℤ At j → x ∈ cs
    gapless_fills e x lo hi = go (dec_lt j i)
      where
        go : Dec (j < i) → x ∈ cs
        go (yes l) = clash_ℤ (<ℤ-≤ℤ_trans (up j i l li) lo) hi
        go (no l) =
            let z : j ≡ i + (j - i) = omega arith in
            fill (j - i) i (omega arith)
            (each_imp (λ p. eq_z (At (suc p)) (suc_ℤ (At p)) ≡ true) (λ p. At (suc p) ≡ suc_ℤ (At p)) (up_from i (j - i)) (λ p q. eq_z_eq (At (suc p)) (suc_ℤ (At p)) q)
            (each_all (λ p. eq_z (At (suc p)) (suc_ℤ (At p))) (up_from i (j - i)) e))
            x lo (subst (λ (k : ℕ). x ≤ℤ At k) z hi)

    pub fills_gapless : ((x : ℤ) → At i ≤ℤ x → x ≤ℤ At j → x ∈ cs) → gapless cs i j ≡ true
    fills_gapless f = all_each (λ p. eq_z (At (suc p)) (suc_ℤ (At p))) (up_from i (j - i)) (up_each (λ p. eq_z (At (suc p)) (suc_ℤ (At p)) ≡ true) i (j - i) (λ p l h. eq_eq_z (At (suc p)) (suc_ℤ (At p)) (next p l (omega arith))))
      where
        -- the number after constant p is a constant, and no constant stands between
        next : (p : ℕ) → i ≤ p → p < j → At (suc p) ≡ suc_ℤ (At p)
        next p l h =
            let a : At i ≤ℤ suc_ℤ (At p) = ≤ℤ-trans (rising_le cs up i p l (omega arith)) (lt_le (lt_suc (At p))) in
            let b : suc_ℤ (At p) ≤ℤ At (suc p) = suc_le (At p) (At (suc p)) (up p (suc p) (omega arith) (omega arith)) in
            let r = place_of cs (suc_ℤ (At p)) (f (suc_ℤ (At p)) a (≤ℤ-trans b (rising_le cs up (suc p) j h lj))) in
            let q : r.0 ≤ suc p = le_rising cs up r.0 (suc p) r.1 (rw r.2 at b) in
            let s : ¬ (r.0 ≤ p) = λ t. clash_ℤ (lt_suc (At p)) (rw r.2 (rising_le cs up r.0 p t (omega arith))) in
            let z : r.0 ≡ suc p = omega arith in
            sym (r.2 ∙ ap At z)
