-- Numbers that ascend, by neighbours: what `is_sorted_by` answers of them, and the two-byte numbers of a part.
use mathlib.Core.Path.{◌≡◌, refl, sym, ap, ◌∙◌}
use mathlib.Core.Bool.{Bool, true, false, ◌&&◌}
use mathlib.Core.List.{List, [], ◌∷◌, map}
use Prim.Native.Nat.{ℕ, zero, suc, ◌+◌, ◌*◌, ◌-◌, ◌/◌, ◌<◌}
use native.Mathlib.Omega.{arith}
use lib.ListN.{length, get_or}
use lib.Dec.{leb, ltb}
use lib.IntN.{ℤ}
use lib.Signed.{lt_z}
use borrow.Author.Tests.{le-leb, leb-true, ltb-true}
use Rattle.std.specs.Int.{cast_signed, from_le_bytes, w16}
use Rattle.std.specs.List.{IsAllAdjacentAnswer, list_all}
use Rattle.std.specs.Simd.{first_chunks}
use Rattle.slices.specs.Bytes.{word_at}
use Rattle.slices.proofs.Parts.{of_pairs}
use Rattle.calculus.specs.Lists.{all}
use Rattle.calculus.specs.Reading.{signed, words, ascending}

-- ---- neighbours

-- e holds of each and the next
abbrev pub adjacent : {A : Type 0} → (A → A → Bool) → List A → Bool
adjacent e [] = true
adjacent e (a ∷ []) = true
adjacent e (a ∷ b ∷ xs) = e a b && adjacent e (b ∷ xs)

later : (k : ℕ) → suc k + 1 ≡ suc (k + 1)
later k = omega arith

module _ {X A : Type 0} (e : A → A → Bool) (v : X → A) where
  pub adjacent_is : (xs : List X) (r : Bool) → IsAllAdjacentAnswer (λ x y t. t ≡ e (v x) (v y)) xs r → r ≡ adjacent e (map v xs)
  adjacent_is xs true h = all_hold xs h
    where
      all_hold : (xs : List X) → ((k : ℕ) (d : X) → k + 1 < length xs → true ≡ e (v (get_or xs k d)) (v (get_or xs (k + 1) d))) → true ≡ adjacent e (map v xs)
      all_hold [] h = refl
      all_hold (x ∷ []) h = refl
      all_hold (x ∷ y ∷ xs) h = rw (sym (h 0 x (omega arith))) (all_hold (y ∷ xs) (λ k d l. rw (later k) at (h (suc k) d (omega arith))))
  adjacent_is xs false h = one_fails xs h.0 h.1 h.2
    where
      one_fails : (xs : List X) (k : ℕ) → k + 1 < length xs → ((d : X) → false ≡ e (v (get_or xs k d)) (v (get_or xs (k + 1) d))) → false ≡ adjacent e (map v xs)
      one_fails [] k l h = absurd (omega arith)
      one_fails (x ∷ []) k l h = absurd (omega arith)
      one_fails (x ∷ y ∷ xs) zero l h = rw (sym (h x)) refl
      one_fails (x ∷ y ∷ xs) (suc k) l h = and_fails (e (v x) (v y)) (one_fails (y ∷ xs) k (omega arith) (rw (later k) at h))
        where
          and_fails : (a : Bool) {b : Bool} → false ≡ b → false ≡ (a && b)
          and_fails true q = q
          and_fails false q = refl

-- ---- two-byte numbers

-- the number of two bytes, as the code reads it
abbrev pub number_of : List ℕ → ℤ
number_of pair = cast_signed w16 (from_le_bytes w16 pair)

abbrev pub below : List ℕ → List ℕ → Bool
below x y = lt_z (number_of x) (number_of y)

pair_is : (a b : ℕ) → number_of (a ∷ b ∷ []) ≡ signed (a + 256 * b)
pair_is a b =
    let q : 65536 - suc (a + b * 256) ≡ 65535 - (a + 256 * b) = omega arith in
    let p : a + b * 256 ≡ a + 256 * b = omega arith in
    rw (q, p) refl

words_of_pairs : (n : ℕ) (bs : List ℕ) → length bs / 2 ≡ n → map number_of (first_chunks 2 n bs) ≡ words bs
words_of_pairs n bs e = sym (of_pairs number_of words refl (λ a. refl) (λ a b bs. ap (λ (z : ℤ). z ∷ words bs) (sym (pair_is a b))) n bs e)

ascending_adjacent : (zs : List ℤ) → adjacent lt_z zs ≡ ascending zs
ascending_adjacent [] = refl
ascending_adjacent (a ∷ []) = refl
ascending_adjacent (a ∷ b ∷ zs) = ap (λ (t : Bool). lt_z a b && t) (ascending_adjacent (b ∷ zs))

pub ascending_is : (bs : List ℕ) (r : Bool) → IsAllAdjacentAnswer (λ x y t. t ≡ below x y) (first_chunks 2 (length bs / 2) bs) r → r ≡ ascending (words bs)
ascending_is bs r h = adjacent_is lt_z number_of _ r h ∙ ap (adjacent lt_z) (words_of_pairs _ bs refl) ∙ ascending_adjacent (words bs)

module _ (test : ℤ → Bool) where
  all_mapped : (number : List ℕ → ℤ) (xs : List (List ℕ)) → list_all (λ x. test (number x)) xs ≡ all test (map number xs)
  all_mapped number [] = refl
  all_mapped number (x ∷ xs) = ap (λ (t : Bool). test (number x) && t) (all_mapped number xs)

  pub all_numbers : (bs : List ℕ) → list_all (λ x. test (number_of x)) (first_chunks 2 (length bs / 2) bs) ≡ all test (words bs)
  all_numbers bs = all_mapped number_of _ ∙ ap (all test) (words_of_pairs _ bs refl)

  -- the same of each pair's number as `word_at` has it
  pub all_words : (bs : List ℕ) → list_all (λ x. test (word_at x 0)) (first_chunks 2 (length bs / 2) bs) ≡ all test (words bs)
  all_words bs = all_mapped (λ x. word_at x 0) _ ∙ ap (all test) (sym (of_pairs (λ x. word_at x 0) words refl (λ a. refl) (λ a b bs. refl) _ bs refl))

-- ---- tests one after another

-- d follows from a and c
pub and_known : (a b c d e f : Bool) → (a ≡ true → c ≡ true → d ≡ true) → (a && b && c && (d && e && f)) ≡ (a && b && (c && e && f))
and_known true true true d e f h = rw (h refl refl) refl
and_known true true false d e f h = refl
and_known true false c d e f h = refl
and_known false b c d e f h = refl

-- what is above a number from lo on is from lo on
pub above : (lo a b : ℕ) → leb lo a ≡ true → ltb a b ≡ true → leb lo b ≡ true
above lo a b p q = le-leb lo b (omega (arith, leb-true lo a p, ltb-true a b q))
