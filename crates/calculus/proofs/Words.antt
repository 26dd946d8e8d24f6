-- Two-byte numbers: reading undoes writing, and writing reading; and what the tests of questions 3 to 5 say.
use mathlib.Core.Path.{◌≡◌, refl, ◌∙◌, ap, ap₂}
use mathlib.Core.Bool.{Bool, true, false, ◌&&◌}
use mathlib.Core.List.{List, [], ◌∷◌, ◌++◌}
use Prim.Native.Nat.{ℕ, zero, suc, ◌+◌, ◌*◌, ◌-◌, ◌/◌, ◌%◌, ◌<◌, ◌≤◌, zero-le, suc-le-suc}
use native.Mathlib.Omega.{arith}
use native.Mathlib.Nat.{le_of_suc-le-suc}
use lib.ListN.{length, get_or, take, drop}
use lib.Seq.{take_at, drop_at}
use lib.Dec.{leb, ltb, leb→le, le→leb}
use lib.IntN.{ℤ, pos, negsuc}
use lib.Signed.{mag, ◌≤ℤ◌, ◌<ℤ◌, lt_z, le_z, <ℤ-≤ℤ_trans}
use borrow.Author.Tests.{ltb-true, ltb-false, leb-true, lt-ltb, le-ltb, le-leb}
use Rattle.calculus.specs.Lists.{Each, gather}
use Rattle.calculus.specs.Problem.{Rising, Letters}
use Rattle.calculus.specs.Reading.{signed, words, ascending, in_range, letters}
use Rattle.calculus.specs.Encoding.{Bytes, two_bytes, Fits16}
use Rattle.calculus.proofs.Bools.{and_l, and_r, and_i, each_all, all_each, each_imp}
use Rattle.calculus.proofs.Integers.{pass, passed, lt_le}
use Rattle.calculus.proofs.Sequences.{each_at, at_each}

-- ---- one number

pub fits_small : (x : ℤ) → Fits16 x → mag x < 32768
fits_small (pos n) f = suc-le-suc (leb→le n 32767 f.1.le)
fits_small (negsuc n) f = suc-le-suc (leb→le n 32767 f.0.le)

pub small_fits : (x : ℤ) → mag x < 32768 → Fits16 x
small_fits (pos n) l = (record { le = tt }, record { le = le→leb n 32767 (omega arith) })
small_fits (negsuc n) l = (record { le = le→leb n 32767 (omega arith) }, record { le = tt })

low : (n : ℕ) → n < 32768 → signed n ≡ pos n
low n l = rw (lt-ltb n 32768 l)

high : (n : ℕ) → 32768 ≤ n → signed n ≡ negsuc (65535 - n)
high n l = rw (le-ltb n 32768 l)

signed_small : (n : ℕ) → n < 65536 → mag (signed n) < 32768
signed_small n l = go (ltb n 32768) refl
  where
    go : (t : Bool) → ltb n 32768 ≡ t → mag (signed n) < 32768
    go true e = rw (low n (ltb-true n 32768 e)) (ltb-true n 32768 e)
    go false e = rw (high n (ltb-false n 32768 e)) (omega (arith, ltb-false n 32768 e))

signed_bytes : (a b : ℕ) → a < 256 → b < 256 → two_bytes (signed (a + 256 * b)) ≡ a ∷ b ∷ []
signed_bytes a b la lb = go (ltb (a + 256 * b) 32768) refl
  where
    pair : (x y : ℕ) → x ≡ a → y ≡ b → ◌≡◌ {A = List ℕ} (x ∷ y ∷ []) (a ∷ b ∷ [])
    pair x y p q = rw (p, q)

    go : (t : Bool) → ltb (a + 256 * b) 32768 ≡ t → two_bytes (signed (a + 256 * b)) ≡ a ∷ b ∷ []
    go true e = rw (low (a + 256 * b) (ltb-true (a + 256 * b) 32768 e)) (pair _ _ (omega arith) (omega arith))
    go false e = rw (high (a + 256 * b) (ltb-false (a + 256 * b) 32768 e)) (pair _ _ (omega (arith, ltb-false (a + 256 * b) 32768 e)) (omega (arith, ltb-false (a + 256 * b) 32768 e)))

-- ---- lists of numbers

bytes_signed : (n : ℕ) → signed (n % 256 + 256 * (n / 256)) ≡ signed n
bytes_signed n = let e : n % 256 + 256 * (n / 256) ≡ n = omega arith in ap signed e

pub words_encoded : (xs : List ℤ) → Each Fits16 xs → words (gather two_bytes xs) ≡ xs
words_encoded [] f = refl
words_encoded (pos n ∷ xs) f = ap₂ {A = ℤ} {B = List ℤ} {C = List ℤ} (λ y ys. y ∷ ys) (bytes_signed n ∙ low n (fits_small (pos n) f.0)) (words_encoded xs f.1)
words_encoded (negsuc n ∷ xs) f =
    let l = fits_small (negsuc n) f.0 in
    let e : 65535 - (65535 - n) ≡ n = omega arith in
    ap₂ {A = ℤ} {B = List ℤ} {C = List ℤ} (λ y ys. y ∷ ys) (bytes_signed (65535 - n) ∙ high (65535 - n) (omega arith) ∙ ap negsuc e) (words_encoded xs f.1)

pub encoded_words : (n : ℕ) (bs : List ℕ) → Bytes bs → length bs ≡ 2 * n → gather two_bytes (words bs) ≡ bs
encoded_words n [] h e = refl
encoded_words n (a ∷ []) h e = absurd (omega arith)
encoded_words zero (a ∷ b ∷ bs) h e = absurd (omega arith)
encoded_words (suc n) (a ∷ b ∷ bs) h e = ap₂ (λ (xs ys : List ℕ). xs ++ ys) (signed_bytes a b h.0 h.1.0) (encoded_words n bs h.1.1 (omega arith))

pub words_length : (n : ℕ) (bs : List ℕ) → length bs ≡ 2 * n → length (words bs) ≡ n
words_length n [] e = omega arith
words_length n (a ∷ []) e = absurd (omega arith)
words_length zero (a ∷ b ∷ bs) e = absurd (omega arith)
words_length (suc n) (a ∷ b ∷ bs) e = ap suc (words_length n bs (omega arith))

pub encoded_length : (xs : List ℤ) → length (gather two_bytes xs) ≡ 2 * length xs
encoded_length [] = refl
encoded_length (pos n ∷ xs) = omega (arith, encoded_length xs)
encoded_length (negsuc n ∷ xs) = omega (arith, encoded_length xs)

pub words_fit : (bs : List ℕ) → Bytes bs → Each Fits16 (words bs)
words_fit [] h = tt
words_fit (a ∷ []) h = tt
words_fit (a ∷ b ∷ bs) h = (small_fits (signed (a + 256 * b)) (signed_small (a + 256 * b) (omega (arith, h.0, h.1.0))), words_fit bs h.1.1)

pub encoded_bytes : (xs : List ℤ) → Each Fits16 xs → Bytes (gather two_bytes xs)
encoded_bytes [] f = tt
encoded_bytes (pos n ∷ xs) f = (omega arith, (omega (arith, fits_small (pos n) f.0), encoded_bytes xs f.1))
encoded_bytes (negsuc n ∷ xs) f = (omega arith, (omega (arith, fits_small (negsuc n) f.0), encoded_bytes xs f.1))

-- numbers, then more: taken apart by their count
module _ (n : ℕ) (xs : List ℤ) (more : List ℕ) (e : length xs ≡ n) where
  pub words_front : Each Fits16 xs → words (take (2 * n) (gather two_bytes xs ++ more)) ≡ xs
  words_front f = ap words (take_at (gather two_bytes xs) more (2 * n) (omega (arith, encoded_length xs))) ∙ words_encoded xs f

  pub words_rest : drop (2 * n) (gather two_bytes xs ++ more) ≡ more
  words_rest = drop_at (gather two_bytes xs) more (2 * n) (omega (arith, encoded_length xs))

-- ---- at a place of a list

-- in the order of R
module _ {A : Type 0} (R : A → A → Type 0) (d : A) where
  abbrev Ordered : List A → Type 0
  Ordered xs = (p q : ℕ) → p < q → q < length xs → R (get_or xs p d) (get_or xs q d)

  none_order : Ordered []
  none_order p q l h = absurd (omega arith)

  one_order : (a : A) → Ordered (a ∷ [])
  one_order a p q l h = absurd (omega arith)

  more_order : ((a b c : A) → R a b → R b c → R a c) → (a b : A) (xs : List A) → R a b → Ordered (b ∷ xs) → Ordered (a ∷ b ∷ xs)
  more_order trans a b xs r o p zero l h = absurd (omega arith)
  more_order trans a b xs r o zero (suc zero) l h = r
  more_order trans a b xs r o zero (suc (suc q)) l h = trans a b (get_or xs q d) r (o zero (suc q) (suc-le-suc zero-le) (le_of_suc-le-suc h))
  more_order trans a b xs r o (suc p) (suc q) l h = o p q (le_of_suc-le-suc l) (le_of_suc-le-suc h)

  head_order : (a b : A) (xs : List A) → Ordered (a ∷ b ∷ xs) → R a b
  head_order a b xs o = o 0 1 (omega arith) (omega arith)

  rest_order : (a : A) (xs : List A) → Ordered (a ∷ xs) → Ordered xs
  rest_order a xs o p q l h = o (suc p) (suc q) (suc-le-suc l) (suc-le-suc h)

-- ---- question 3

pub ascending_rising : (xs : List ℤ) → ascending xs ≡ true → Rising xs
ascending_rising [] e = none_order ◌<ℤ◌ (pos 0)
ascending_rising (a ∷ []) e = one_order ◌<ℤ◌ (pos 0) a
ascending_rising (a ∷ b ∷ xs) e = more_order ◌<ℤ◌ (pos 0) (λ x y z h k. <ℤ-≤ℤ_trans h (lt_le k)) a b xs (record { lt = pass (and_l (lt_z a b) (ascending (b ∷ xs)) e) }) (ascending_rising (b ∷ xs) (and_r (lt_z a b) (ascending (b ∷ xs)) e))

pub rising_ascending : (xs : List ℤ) → Rising xs → ascending xs ≡ true
rising_ascending [] r = refl
rising_ascending (a ∷ []) r = refl
rising_ascending (a ∷ b ∷ xs) r = and_i (passed (lt_z a b) (head_order ◌<ℤ◌ (pos 0) a b xs r).lt) (rising_ascending (b ∷ xs) (rest_order ◌<ℤ◌ (pos 0) a (b ∷ xs) r))

abbrev Within : ℤ → Type 0
Within c = (negsuc 31999 ≤ℤ c) × (c ≤ℤ pos 32000)

abbrev within : ℤ → Bool
within c = le_z (negsuc 31999) c && le_z c (pos 32000)

pub range_is : (cs : List ℤ) → in_range cs ≡ true → (p : ℕ) → p < length cs → (negsuc 31999 ≤ℤ get_or cs p (pos 0)) × (get_or cs p (pos 0) ≤ℤ pos 32000)
range_is cs e = each_at Within cs (pos 0) (each_imp (λ c. within c ≡ true) Within cs is (each_all within cs e))
  where
    is : (c : ℤ) → within c ≡ true → Within c
    is c q = (record { le = pass (and_l (le_z (negsuc 31999) c) (le_z c (pos 32000)) q) }, record { le = pass (and_r (le_z (negsuc 31999) c) (le_z c (pos 32000)) q) })

pub is_range : (cs : List ℤ) → ((p : ℕ) → p < length cs → (negsuc 31999 ≤ℤ get_or cs p (pos 0)) × (get_or cs p (pos 0) ≤ℤ pos 32000)) → in_range cs ≡ true
is_range cs h = all_each within cs (each_imp Within (λ c. within c ≡ true) cs test (at_each Within cs (pos 0) h))
  where
    test : (c : ℤ) → Within c → within c ≡ true
    test c w = and_i (passed (le_z (negsuc 31999) c) w.0.le) (passed (le_z c (pos 32000)) w.1.le)

pub within_fits16 : (x : ℤ) → negsuc 31999 ≤ℤ x → x ≤ℤ pos 32000 → Fits16 x
within_fits16 (pos n) lo hi = small_fits (pos n) (omega (arith, leb→le n 32000 hi.le))
within_fits16 (negsuc n) lo hi = small_fits (negsuc n) (omega (arith, leb→le n 31999 lo.le))

pub range_fits16 : (cs : List ℤ) → ((p : ℕ) → p < length cs → (negsuc 31999 ≤ℤ get_or cs p (pos 0)) × (get_or cs p (pos 0) ≤ℤ pos 32000)) → Each Fits16 cs
range_fits16 cs h = at_each Fits16 cs (pos 0) (λ p l. within_fits16 (get_or cs p (pos 0)) (h p l).0 (h p l).1)

-- ---- questions 4 and 5

module _ (lo hi : ℕ) where
  letter : (a : ℕ) → (leb lo a && leb a hi) ≡ true → (lo ≤ a) × (a ≤ hi)
  letter a e = (leb-true lo a (and_l (leb lo a) (leb a hi) e), leb-true a hi (and_r (leb lo a) (leb a hi) e))

  is_letter : (a : ℕ) → (lo ≤ a) × (a ≤ hi) → (leb lo a && leb a hi) ≡ true
  is_letter a h = and_i (le-leb lo a h.0) (le-leb a hi h.1)

  -- the tests of a letter that another follows
  apart : (a b : ℕ) (cs : List ℕ) → letters lo hi (a ∷ b ∷ cs) ≡ true → ((leb lo a && leb a hi) ≡ true) × (a < b) × (letters lo hi (b ∷ cs) ≡ true)
  apart a b cs e =
      let h = and_l (leb lo a && leb a hi && ltb a b) (letters lo hi (b ∷ cs)) e in
      (and_l (leb lo a && leb a hi) (ltb a b) h, ltb-true a b (and_r (leb lo a && leb a hi) (ltb a b) h), and_r (leb lo a && leb a hi && ltb a b) (letters lo hi (b ∷ cs)) e)

  letters_each : (cs : List ℕ) → letters lo hi cs ≡ true → Each (λ c. (lo ≤ c) × (c ≤ hi)) cs
  letters_each [] e = tt
  letters_each (a ∷ []) e = (letter a e, tt)
  letters_each (a ∷ b ∷ cs) e = let h = apart a b cs e in (letter a h.0, letters_each (b ∷ cs) h.2)

  letters_rise : (cs : List ℕ) → letters lo hi cs ≡ true → Ordered ◌<◌ 0 cs
  letters_rise [] e = none_order ◌<◌ 0
  letters_rise (a ∷ []) e = one_order ◌<◌ 0 a
  letters_rise (a ∷ b ∷ cs) e = let h = apart a b cs e in more_order ◌<◌ 0 (λ x y z k l. omega arith) a b cs h.1 (letters_rise (b ∷ cs) h.2)

  pub letters_are : (cs : List ℕ) → letters lo hi cs ≡ true → Letters lo hi cs
  letters_are cs e = record { rising = letters_rise cs e; range = each_at (λ c. (lo ≤ c) × (c ≤ hi)) cs 0 (letters_each cs e) }

  pub are_letters : (cs : List ℕ) → Letters lo hi cs → letters lo hi cs ≡ true
  are_letters [] w = refl
  are_letters (a ∷ []) w = is_letter a (w.range 0 (omega arith))
  are_letters (a ∷ b ∷ cs) w = and_i (and_i (is_letter a (w.range 0 (omega arith))) (lt-ltb a b (head_order ◌<◌ 0 a b cs w.rising)))
      (are_letters (b ∷ cs) (record { rising = rest_order ◌<◌ 0 a (b ∷ cs) w.rising; range = λ p l. w.range (suc p) (suc-le-suc l) }))
