-- Numbers, sets of numbers, and letters with their values, as text in ASCII.
use Rattle.std.specs.Prelude.{◌≡◌, cond, List, [], ◌∷◌, ◌++◌, map, ℕ, zero, suc, ◌+◌, ◌*◌, ◌-◌, ◌/◌, ◌%◌, ◌≤◌, length, get_or, ltb, eqb, ℤ, pos, negsuc}
use Rattle.calculus.specs.Lists.{gather, Each}
use Rattle.slices.specs.Bytes.{put_at}
use Rattle.text.specs.declared.Text.{Text}

-- the decimal digits of n, the most significant first; fuel above n is enough
abbrev pub digits : ℕ → ℕ → List ℕ
digits zero n = []
digits (suc fuel) n = cond (ltb n 10) [] (digits fuel (n / 10)) ++ ((48 + n % 10) ∷ [])

unfoldable pub decimal : ℕ → List ℕ
decimal n = digits (suc n) n

-- what digits are worth after those that are worth n
abbrev pub worth : ℕ → List ℕ → ℕ
worth n [] = n
worth n (d ∷ ds) = worth (10 * n + (d - 48)) ds

-- Decimal digits read back as their number, they are digits, and only the number 0 begins with a 0: its text is that one digit.
abbrev pub ReadsBack : Type 0
ReadsBack = (n : ℕ) → (worth 0 (decimal n) ≡ n) × Each (λ d. (48 ≤ d) × (d ≤ 57)) (decimal n) × (get_or (decimal n) 0 48 ≡ 48 → decimal n ≡ 48 ∷ [])

-- a minus sign first if negative
abbrev pub number : ℤ → List ℕ
number (pos n) = decimal n
number (negsuc n) = 45 ∷ decimal (suc n)

-- one text after the other, a separator between
abbrev pub separated : ℕ → List (List ℕ) → List ℕ
separated c [] = []
separated c (x ∷ xs) = x ++ gather (λ (y : List ℕ). c ∷ y) xs

-- members in braces, a comma between; an empty set is {}
abbrev pub braces : List ℤ → List ℕ
braces xs = 123 ∷ (separated 44 (map number xs) ++ (125 ∷ []))

-- each letter, an equals sign and its value; there are as many letters as values
module _ {A : Type 0} where
  abbrev pub assigned : (A → List ℕ) → List ℕ → List A → List (List ℕ)
  assigned text [] xs = []
  assigned text (c ∷ cs) [] = []
  assigned text (c ∷ cs) (x ∷ xs) = (c ∷ 61 ∷ text x) ∷ assigned text cs xs

-- ---- text in a buffer

-- a text has more after what it had: nothing else of the buffer changes, and it is the same buffer, as long as it was. Who writes sees to it that there is room.
pub record Says (before : Text) (more : List ℕ) (after : Text) : Type 0 where
  pub buffer_is : after.buffer.now ≡ put_at before.buffer.now before.end more
  pub ends : after.end ≡ before.end + length more
  pub long : length after.buffer.now ≡ length before.buffer.now
  pub same : after.buffer.ghost_name ≡ before.buffer.ghost_name

-- a separator, unless nothing was written since a place
unfoldable pub led : (c start end : ℕ) → List ℕ
led c start end = cond (eqb end start) [] (c ∷ [])
