-- Bytes of slices: two as a number, numbers within bounds, bytes written at a place. Assumes nothing: these are definitions.
use Rattle.std.specs.Prelude.{Bool, ◌&&◌, List, [], ◌∷◌, ◌++◌, ℕ, ◌+◌, ◌*◌, ◌-◌, length, get_or, take, drop, replicate, ℤ}
use Rattle.std.specs.Int.Signed.{le_z}
use Rattle.calculus.specs.Lists.{all}
use Rattle.calculus.specs.Reading.{signed}

-- two bytes, low first, before their sign is read
abbrev pub bytes_at : List ℕ → ℕ → ℕ
bytes_at bs i = get_or bs i 0 + 256 * get_or bs (i + 1) 0

-- the whole number at two bytes
abbrev pub word_at : List ℕ → ℕ → ℤ
word_at bs i = signed (bytes_at bs i)

-- a number is from lo to hi
abbrev pub in_bounds : (lo hi z : ℤ) → Bool
in_bounds lo hi z = le_z lo z && le_z z hi

-- each number is; from -32,000 to 32,000 this is the calculus's `in_range`
abbrev pub within : (lo hi : ℤ) → List ℤ → Bool
within lo hi zs = all (in_bounds lo hi) zs

-- a buffer with bytes written at a place, and otherwise as it was
abbrev pub put_at : List ℕ → ℕ → List ℕ → List ℕ
put_at buffer at bytes = take at buffer ++ (bytes ++ drop (at + length bytes) buffer)

-- where each of some things stands, by their sizes, the first at a place
module _ {A : Type 0} where
  unfoldable pub places_from : (A → ℕ) → ℕ → List A → List ℕ
  places_from size at [] = []
  places_from size at (x ∷ xs) = at ∷ places_from size (at + size x) xs

  -- a list of a length, filled up with the same
  abbrev pub filled : A → ℕ → List A → List A
  filled x n xs = xs ++ replicate (n - length xs) x
