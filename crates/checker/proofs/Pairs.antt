-- The numbers of a slice, two bytes each, pair by pair.
use mathlib.Core.Path.{◌≡◌, refl, sym, ap, ◌∙◌}
use mathlib.Core.Bool.{Bool, true, false, ◌&&◌, ◌||◌, not, cond}
use mathlib.Core.List.{List, [], ◌∷◌, map}
use Prim.Native.Nat.{ℕ, suc, ◌+◌, ◌/◌, ◌<◌}
use native.Mathlib.Omega.{arith}
use mir.Syntax.{w16}
use lib.ListN.{length}
use lib.Dec.{eqb, ltb}
use lib.IntN.{ℤ}
use borrow.Author.Tests.{lt-ltb, ltb-true}
use Rattle.std.specs.Simd.{first_chunks}
use Rattle.std.specs.Int.{from_le_bytes}
use Rattle.std.specs.List.{list_any, list_all, position_or_len}
use Rattle.std.specs.Option.{is_some}
use Rattle.std.specs.Prelude.{Option, Some, None}
use Rattle.calculus.specs.Lists.{any, all}
use Rattle.calculus.specs.Reading.{signed, words, eq_z}
use Rattle.calculus.proofs.Bools.{same_test, eqb_flip, any_map, all_map}
use Rattle.slices.proofs.Parts.{of_pairs}
use Rattle.slices.proofs.TwoBytes.{same_number}

-- the number of a pair
abbrev pub number_of : List ℕ → ℤ
number_of m = signed (from_le_bytes w16 m)

-- the numbers of the bytes are those of their pairs
words_of_pairs : (n : ℕ) (bs : List ℕ) → length bs / 2 ≡ n → words bs ≡ map number_of (first_chunks 2 n bs)
words_of_pairs = of_pairs number_of words refl (λ a. refl) (λ a b bs. ap (λ (x : ℕ). signed x ∷ words bs) (omega arith))

pub any_in_pairs : (p : ℤ → Bool) (n : ℕ) (bs : List ℕ) → length bs / 2 ≡ n → list_any (λ m. p (number_of m)) (first_chunks 2 n bs) ≡ any p (words bs)
any_in_pairs p n bs e = sym (ap (any p) (words_of_pairs n bs e) ∙ any_map p number_of (first_chunks 2 n bs))

pub all_in_pairs : (p : ℤ → Bool) (n : ℕ) (bs : List ℕ) → length bs / 2 ≡ n → list_all (λ m. p (number_of m)) (first_chunks 2 n bs) ≡ all p (words bs)
all_in_pairs p n bs e = sym (ap (all p) (words_of_pairs n bs e) ∙ all_map p number_of (first_chunks 2 n bs))

-- a place is found where a test passes
module _ {A : Type 0} (p : A → Bool) where
  head : (t : Bool) (i n : ℕ) → ltb (cond (not t) (1 + i) 0) (suc n) ≡ (t || ltb i n)
  head true i n = lt-ltb 0 (suc n) (omega arith)
  head false i n = same_test (ltb (1 + i) (suc n)) (ltb i n) (λ e. lt-ltb i n (omega (arith, ltb-true (1 + i) (suc n) e))) (λ e. lt-ltb (1 + i) (suc n) (omega (arith, ltb-true i n e)))

  within : (xs : List A) → ltb (position_or_len p xs) (length xs) ≡ list_any p xs
  within [] = refl
  within (x ∷ xs) = head (p x) (position_or_len p xs) (length xs) ∙ ap (λ (t : Bool). p x || t) (within xs)

  there : (t : Bool) (i : ℕ) → is_some (cond t (Some i) None) ≡ t
  there true i = refl
  there false i = refl

  pub place_found : (xs : List A) (r : Option ℕ) → r ≡ cond (ltb (position_or_len p xs) (length xs)) (Some (position_or_len p xs)) None → is_some r ≡ list_any p xs
  place_found xs r e = ap is_some e ∙ there (ltb (position_or_len p xs) (length xs)) (position_or_len p xs) ∙ within xs

-- a value is compared with a number
pub same_value : (x v : ℕ) (y : ℤ) → x < 65536 → (signed v ≡ y) × (v < 65536) → eqb v x ≡ eq_z (signed x) y
same_value x v y l h = eqb_flip v x ∙ sym (same_number x v l h.1) ∙ ap (eq_z (signed x)) h.0

-- ---- a test after another

pub first_fails : (r a b : Bool) → r ≡ a → r ≡ false → r ≡ (a && b)
first_fails r a b e f = rw (sym e, f) refl

pub then_second : (r a b : Bool) {t : Bool} → r ≡ a → r ≡ true → t ≡ b → t ≡ (a && b)
then_second r a b e f g = rw (sym e, f) g
