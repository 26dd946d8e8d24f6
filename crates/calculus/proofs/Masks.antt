-- Bits of masks, and a mask in a list of masks.
use mathlib.Core.Path.{◌≡◌, refl, sym, ◌∙◌, ap}
use mathlib.Core.Logic.{◌⊎◌, inl, inr}
use mathlib.Core.Bool.{true, false, ◌&&◌, ◌||◌, or-false}
use mathlib.Core.List.{List}
use Prim.Native.Nat.{ℕ, zero, suc, ◌/◌, ◌%◌, ◌^◌, ◌<◌, min, max}
use native.Mathlib.Omega.{arith}
use native.Mathlib.Decide.{ℕ_discrete}
use native.Mathlib.Nat.{pow-suc, mul-mod_left}
use lib.ListN.{length, get_or, set}
use lib.Seq.{get_or-set_same, get_or-set_other}
use lib.Dec.{eqb, eqb-suc-suc, eqb-zero-suc, eqb-suc-zero}
use lib.Bits.{bit_or, bit_and, or_step, and_step}
use lib.Arith.{bin_ind}
use borrow.Author.Tests.{eq-eqb, ne_eqb}
use Rattle.calculus.specs.Lists.{bit}

pub odd_even : (a : ℕ) → (a % 2 ≡ 0) ⊎ (a % 2 ≡ 1)
odd_even a = go (ℕ_discrete (a % 2) 0)
  where
    go : Dec (a % 2 ≡ 0) → (a % 2 ≡ 0) ⊎ (a % 2 ≡ 1)
    go (yes e) = inl e
    go (no n) = inr (omega arith)

low_max : (a b : ℕ) → eqb (max (a % 2) (b % 2)) 1 ≡ (eqb (a % 2) 1 || eqb (b % 2) 1)
low_max a b = go (odd_even a) (odd_even b)
  where
    go : (a % 2 ≡ 0) ⊎ (a % 2 ≡ 1) → (b % 2 ≡ 0) ⊎ (b % 2 ≡ 1) → eqb (max (a % 2) (b % 2)) 1 ≡ (eqb (a % 2) 1 || eqb (b % 2) 1)
    go (inl p) (inl q) = rw (p, q)
    go (inl p) (inr q) = rw (p, q)
    go (inr p) (inl q) = rw (p, q)
    go (inr p) (inr q) = rw (p, q)

low_min : (a b : ℕ) → eqb (min (a % 2) (b % 2)) 1 ≡ (eqb (a % 2) 1 && eqb (b % 2) 1)
low_min a b = go (odd_even a) (odd_even b)
  where
    go : (a % 2 ≡ 0) ⊎ (a % 2 ≡ 1) → (b % 2 ≡ 0) ⊎ (b % 2 ≡ 1) → eqb (min (a % 2) (b % 2)) 1 ≡ (eqb (a % 2) 1 && eqb (b % 2) 1)
    go (inl p) (inl q) = rw (p, q)
    go (inl p) (inr q) = rw (p, q)
    go (inr p) (inl q) = rw (p, q)
    go (inr p) (inr q) = rw (p, q)

pub bit_of_or : (a b s : ℕ) → bit (bit_or a b) s ≡ (bit a s || bit b s)
bit_of_or a b zero = let e : bit_or a b % 2 ≡ max (a % 2) (b % 2) = omega (arith, or_step a b) in ap (λ (n : ℕ). eqb n 1) e ∙ low_max a b
bit_of_or a b (suc s) = let e : bit_or a b / 2 ≡ bit_or (a / 2) (b / 2) = omega (arith, or_step a b) in ap (λ (n : ℕ). bit n s) e ∙ bit_of_or (a / 2) (b / 2) s

pub bit_of_and : (a b s : ℕ) → bit (bit_and a b) s ≡ (bit a s && bit b s)
bit_of_and a b zero = let e : bit_and a b % 2 ≡ min (a % 2) (b % 2) = omega (arith, and_step a b) in ap (λ (n : ℕ). eqb n 1) e ∙ low_min a b
bit_of_and a b (suc s) = let e : bit_and a b / 2 ≡ bit_and (a / 2) (b / 2) = omega (arith, and_step a b) in ap (λ (n : ℕ). bit n s) e ∙ bit_of_and (a / 2) (b / 2) s

pub bit_zero : (s : ℕ) → bit 0 s ≡ false
bit_zero zero = refl
bit_zero (suc s) = bit_zero s

pub bit_pow : (A s : ℕ) → bit (2 ^ A) s ≡ eqb s A
bit_pow zero zero = refl
bit_pow zero (suc s) = bit_zero s ∙ sym (eqb-suc-zero s)
bit_pow (suc A) zero = let e : 2 ^ suc A % 2 ≡ 0 = rw pow-suc (mul-mod_left (2 ^ A) 2) in ap (λ (n : ℕ). eqb n 1) e ∙ sym (eqb-zero-suc A)
bit_pow (suc A) (suc s) = let e : 2 ^ suc A / 2 ≡ 2 ^ A = omega (arith, pow-suc 2 A) in ap (λ (n : ℕ). bit n s) e ∙ bit_pow A s ∙ sym (eqb-suc-suc s A)

-- a mask that is not 0 has a bit
pub some_bit : (m : ℕ) → (m ≡ 0) ⊎ ((s : ℕ) × (bit m s ≡ true))
some_bit = bin_ind (λ m. (m ≡ 0) ⊎ ((s : ℕ) × (bit m s ≡ true))) (inl refl) step
  where
    step : (m : ℕ) → (m / 2 ≡ 0) ⊎ ((s : ℕ) × (bit (m / 2) s ≡ true)) → (m ≡ 0) ⊎ ((s : ℕ) × (bit m s ≡ true))
    step m (inr h) = inr (suc h.0, h.1)
    step m (inl e) = go (odd_even m)
      where
        go : (m % 2 ≡ 0) ⊎ (m % 2 ≡ 1) → (m ≡ 0) ⊎ ((s : ℕ) × (bit m s ≡ true))
        go (inl p) = inl (omega arith)
        go (inr p) = inr (zero, eq-eqb (m % 2) 1 p)

-- the mask m added to the mask at place i
pub add_at : (l : List ℕ) (i m j s : ℕ) → i < length l
    → bit (get_or (set l i (bit_or (get_or l i 0) m)) j 0) s ≡ (bit (get_or l j 0) s || (eqb j i && bit m s))
add_at l i m j s h = go (ℕ_discrete j i)
  where
    go : Dec (j ≡ i) → bit (get_or (set l i (bit_or (get_or l i 0) m)) j 0) s ≡ (bit (get_or l j 0) s || (eqb j i && bit m s))
    go (yes e) = rw (e, get_or-set_same l i (bit_or (get_or l i 0) m) 0 h, eq-eqb i i refl) (bit_of_or (get_or l i 0) m s)
    go (no n) = rw (get_or-set_other l i j (bit_or (get_or l i 0) m) 0 n, ne_eqb j i n) (sym (or-false (bit (get_or l j 0) s)))
