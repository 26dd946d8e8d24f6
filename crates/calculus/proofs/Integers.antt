-- The order of whole numbers, and of the places of a strictly ascending list.
use mathlib.Core.Path.{◌≡◌, refl, sym, ap, subst}
use mathlib.Core.Logic.{◌⊎◌, inl, inr}
use mathlib.Core.Bool.{Bool, true, false}
use mathlib.Core.List.{List}
use Prim.Native.Nat.{ℕ, zero, suc, ◌<◌, ◌≤◌, zero-le}
use native.Mathlib.Omega.{arith}
use native.Mathlib.Decide.{dec_le, ℕ_discrete}
use native.Mathlib.Nat.{le_of_suc-le-suc}
use lib.ListN.{length, get_or}
use lib.Dec.{T, leb→le, le→leb}
use lib.IntN.{ℤ, pos, negsuc, suc_ℤ}
use lib.Signed.{◌≤ℤ◌, ◌<ℤ◌, le_z, lt_z, ≤ℤ_refl, <ℤ-≤ℤ_trans, clash_ℤ}
use Rattle.calculus.specs.Problem.{Rising}

-- a test that passes
pub pass : {b : Bool} → b ≡ true → T b
pass e = subst T (sym e) tt

pub passed : (b : Bool) → T b → b ≡ true
passed true t = refl
passed false t = absurd t

pub lt_suc : (a : ℤ) → a <ℤ suc_ℤ a
lt_suc (pos m) = record { lt = le→leb (suc m) (suc m) (omega arith) }
lt_suc (negsuc zero) = record { lt = tt }
lt_suc (negsuc (suc m)) = record { lt = le→leb (suc m) (suc m) (omega arith) }

pub suc_le : (a b : ℤ) → a <ℤ b → suc_ℤ a ≤ℤ b
suc_le (pos m) (pos n) h = record { le = h.lt }
suc_le (pos m) (negsuc n) h = absurd h.lt
suc_le (negsuc zero) (pos n) h = record { le = le→leb 0 n zero-le }
suc_le (negsuc (suc m)) (pos n) h = record { le = tt }
suc_le (negsuc zero) (negsuc n) h = absurd (omega (arith, leb→le (suc n) 0 h.lt))
suc_le (negsuc (suc m)) (negsuc n) h = record { le = le→leb n m (le_of_suc-le-suc (leb→le (suc n) (suc m) h.lt)) }

pub le_cases : (a b : ℤ) → a ≤ℤ b → (a ≡ b) ⊎ (a <ℤ b)
le_cases (pos m) (pos n) h = go (ℕ_discrete m n)
  where
    go : Dec (m ≡ n) → (pos m ≡ pos n) ⊎ (pos m <ℤ pos n)
    go (yes e) = inl (ap pos e)
    go (no e) = inr (record { lt = le→leb (suc m) n (omega (arith, leb→le m n h.le)) })
le_cases (pos m) (negsuc n) h = absurd h.le
le_cases (negsuc m) (pos n) h = inr (record { lt = tt })
le_cases (negsuc m) (negsuc n) h = go (ℕ_discrete m n)
  where
    go : Dec (m ≡ n) → (negsuc m ≡ negsuc n) ⊎ (negsuc m <ℤ negsuc n)
    go (yes e) = inl (ap negsuc e)
    go (no e) = inr (record { lt = le→leb (suc n) m (omega (arith, leb→le n m h.le)) })

pub lt_le : {a b : ℤ} → a <ℤ b → a ≤ℤ b
lt_le {a} {b} h = record { le = go a b h.lt }
  where
    go : (a b : ℤ) → T (lt_z a b) → T (le_z a b)
    go (pos m) (pos n) t = le→leb m n (omega (arith, leb→le (suc m) n t))
    go (pos m) (negsuc n) t = t
    go (negsuc m) (pos n) t = tt
    go (negsuc m) (negsuc n) t = le→leb n m (omega (arith, leb→le (suc n) m t))

pub ≤ℤ-trans : {a b c : ℤ} → a ≤ℤ b → b ≤ℤ c → a ≤ℤ c
≤ℤ-trans {a} {b} {c} h k = go (le_cases a b h)
  where
    go : (a ≡ b) ⊎ (a <ℤ b) → a ≤ℤ c
    go (inl e) = rw e k
    go (inr l) = lt_le (<ℤ-≤ℤ_trans l k)

module _ (cs : List ℤ) (up : Rising cs) where
  pub rising_le : (p q : ℕ) → p ≤ q → q < length cs → get_or cs p (pos 0) ≤ℤ get_or cs q (pos 0)
  rising_le p q l h = go (ℕ_discrete p q)
    where
      go : Dec (p ≡ q) → get_or cs p (pos 0) ≤ℤ get_or cs q (pos 0)
      go (yes e) = rw e (≤ℤ_refl (get_or cs q (pos 0)))
      go (no e) = lt_le (up p q (omega arith) h)

  -- the order of values is the order of places
  pub le_rising : (p q : ℕ) → p < length cs → get_or cs p (pos 0) ≤ℤ get_or cs q (pos 0) → p ≤ q
  le_rising p q l h = go (dec_le p q)
    where
      go : Dec (p ≤ q) → p ≤ q
      go (yes e) = e
      go (no e) = clash_ℤ (up q p (omega arith) l) h

  pub rising_inj : (p q : ℕ) → p < length cs → q < length cs → get_or cs p (pos 0) ≡ get_or cs q (pos 0) → p ≡ q
  rising_inj p q lp lq e =
      let a : p ≤ q = le_rising p q lp (rw e (≤ℤ_refl (get_or cs q (pos 0)))) in
      let b : q ≤ p = le_rising q p lq (rw e (≤ℤ_refl (get_or cs q (pos 0)))) in
      omega arith
