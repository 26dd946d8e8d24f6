-- A part of a list, entry by entry and two by two; lists filled up with the same; and lists of bytes.
use mathlib.Core.Path.{◌≡◌, refl, ap, ◌∙◌}
use mathlib.Core.List.{List, [], ◌∷◌, ◌++◌, map}
use Prim.Native.Nat.{ℕ, zero, suc, ◌+◌, ◌-◌, ◌/◌, ◌<◌, ◌≤◌}
use native.Mathlib.Omega.{arith}
use native.Mathlib.Numerals.{add-one}
use lib.ListN.{length, get_or, take, drop, replicate, drop_of_length-le}
use lib.Seq.{drop-cons}
use mir.Syntax.{w8}
use mir.Val.{Fits}
use Rattle.std.specs.Simd.{first_chunks}
use Rattle.slices.specs.Bytes.{bytes_at, places_from, filled}

-- a part, entry by entry
module _ (s : List ℕ) (i : ℕ) where
  pub part_more : i < length s → drop i s ≡ get_or s i 0 ∷ drop (i + 1) s
  part_more l = rw (add-one i) (drop-cons s i 0 l)

  pub part_done : length s ≤ i → drop i s ≡ []
  part_done l = drop_of_length-le s l

-- two entries, and those from j on
pub two_more : (s : List ℕ) (i j : ℕ) → i + 1 < length s → j ≡ i + 1 + 1 → drop i s ≡ get_or s i 0 ∷ get_or s (i + 1) 0 ∷ drop j s
two_more s i j l e = rw e (part_more s i (omega arith) ∙ ap (λ (t : List ℕ). get_or s i 0 ∷ t) (part_more s (i + 1) l))

-- ---- lists filled up with the same, and places by size

module _ {A : Type 0} (d : A) where
  same_at : (m i : ℕ) → get_or (replicate m d) i d ≡ d
  same_at zero i = refl
  same_at (suc m) zero = refl
  same_at (suc m) (suc i) = same_at m i

  pub filled_at : (n : ℕ) (xs : List A) (i : ℕ) → get_or (filled d n xs) i d ≡ get_or xs i d
  filled_at n xs i = go (n - length xs) xs i
    where
      go : (m : ℕ) (xs : List A) (i : ℕ) → get_or (xs ++ replicate m d) i d ≡ get_or xs i d
      go m [] i = same_at m i
      go m (x ∷ xs) zero = refl
      go m (x ∷ xs) (suc i) = go m xs i

module _ {A : Type 0} (size : A → ℕ) where
  pub places_length : (at : ℕ) (xs : List A) → length (places_from size at xs) ≡ length xs
  unfolding places_from
  places_length at [] = refl
  places_length at (x ∷ xs) = ap suc (places_length (at + size x) xs)

-- ---- bytes

-- every entry is a byte
abbrev pub AllBytes : List ℕ → Type 0
AllBytes bs = (i : ℕ) → Fits w8 (get_or bs i 0)

pub take_bytes : (n : ℕ) (bs : List ℕ) → AllBytes bs → AllBytes (take n bs)
take_bytes zero bs known i = omega arith
take_bytes (suc n) [] known i = known i
take_bytes (suc n) (b ∷ bs) known zero = known 0
take_bytes (suc n) (b ∷ bs) known (suc i) = take_bytes n bs (λ j. known (suc j)) i

pub drop_bytes : (n : ℕ) (bs : List ℕ) → AllBytes bs → AllBytes (drop n bs)
drop_bytes zero bs known = known
drop_bytes (suc n) [] known = known
drop_bytes (suc n) (b ∷ bs) known = drop_bytes n bs (λ j. known (suc j))

pub bytes_fit : (bs : List ℕ) → AllBytes bs → (i : ℕ) → bytes_at bs i < 65536
bytes_fit bs known i = omega (arith, known i, known (i + 1))

-- what is made of the bytes two by two is made of their pairs
module _ {A : Type 0} (f : List ℕ → A) (made : List ℕ → List A) (none : made [] ≡ []) (one : (a : ℕ) → made (a ∷ []) ≡ []) (two : (a b : ℕ) (bs : List ℕ) → made (a ∷ b ∷ bs) ≡ f (a ∷ b ∷ []) ∷ made bs) where
  pub of_pairs : (n : ℕ) (bs : List ℕ) → length bs / 2 ≡ n → made bs ≡ map f (first_chunks 2 n bs)
  of_pairs zero [] e = none
  of_pairs zero (a ∷ []) e = one a
  of_pairs zero (a ∷ b ∷ bs) e = absurd (omega arith)
  of_pairs (suc n) [] e = absurd (omega arith)
  of_pairs (suc n) (a ∷ []) e = absurd (omega arith)
  of_pairs (suc n) (a ∷ b ∷ bs) e = two a b bs ∙ ap (λ (xs : List A). f (a ∷ b ∷ []) ∷ xs) (of_pairs n bs (omega arith))
