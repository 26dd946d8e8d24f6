-- Two-byte numbers, compared without their sign; and those of a part, one by one.
use mathlib.Core.Path.{◌≡◌, refl, sym, ap}
use mathlib.Core.Bool.{Bool, true, false}
use mathlib.Core.List.{List, [], ◌∷◌}
use Prim.Native.Nat.{ℕ, zero, suc, ◌+◌, ◌*◌, ◌-◌, ◌/◌, ◌<◌, ◌≤◌}
use native.Mathlib.Omega.{arith}
use lib.ListN.{length, get_or, drop, length-drop}
use lib.Dec.{ltb, eqb}
use lib.IntN.{pos}
use borrow.Author.Tests.{ltb-true, ltb-false, eq-eqb, eqb-true, ne_eqb}
use Rattle.calculus.specs.Reading.{signed, words, eq_z}
use Rattle.calculus.proofs.Bools.{same_test}
use Rattle.slices.specs.Bytes.{bytes_at, word_at}
use Rattle.slices.proofs.Parts.{two_more}

-- two words have the same number just where they are the same
pub same_number : (a b : ℕ) → a < 65536 → b < 65536 → eq_z (signed a) (signed b) ≡ eqb a b
same_number a b la lb = go (ltb a 32768) refl (ltb b 32768) refl
  where
    go : (s : Bool) → ltb a 32768 ≡ s → (t : Bool) → ltb b 32768 ≡ t → eq_z (signed a) (signed b) ≡ eqb a b
    go true e true f = rw (e, f) refl
    go true e false f = rw (e, f) (sym (ne_eqb a b (λ q. omega (arith, ltb-true a 32768 e, ltb-false b 32768 f))))
    go false e true f = rw (e, f) (sym (ne_eqb a b (λ q. omega (arith, ltb-false a 32768 e, ltb-true b 32768 f))))
    go false e false f =
        rw (e, f)
        (same_test (eqb (65535 - a) (65535 - b)) (eqb a b)
        (λ q. eq-eqb a b (omega (arith, eqb-true (65535 - a) (65535 - b) q)))
        (λ q. eq-eqb (65535 - a) (65535 - b) (omega (arith, eqb-true a b q))))

-- fewer than two bytes are no number
no_words : (bs : List ℕ) → length bs < 2 → words bs ≡ []
no_words [] l = refl
no_words (a ∷ []) l = refl
no_words (a ∷ b ∷ bs) l = absurd (omega arith)

-- the numbers of a part from number i on: one and the rest, or none
module _ (bs : List ℕ) (i : ℕ) where
  pub words_more : i < length bs / 2 → words (drop (2 * i) bs) ≡ signed (bytes_at bs (2 * i)) ∷ words (drop (2 * (i + 1)) bs)
  words_more l = ap words (two_more bs (2 * i) (2 * (i + 1)) (omega arith) (omega arith))

  pub words_done : length bs / 2 ≤ i → words (drop (2 * i) bs) ≡ []
  words_done l = no_words (drop (2 * i) bs) (omega (arith, length-drop (2 * i) bs))

-- number p of a part
pub word_read : (bs : List ℕ) (p : ℕ) → 2 * p + 1 < length bs → get_or (words bs) p (pos 0) ≡ word_at bs (2 * p)
word_read [] p l = absurd (omega arith)
word_read (a ∷ []) p l = absurd (omega arith)
word_read (a ∷ b ∷ bs) zero l = refl
word_read (a ∷ b ∷ bs) (suc p) l =
    let e : 2 * suc p + 1 ≡ suc (suc (2 * p + 1)) = omega arith in
    let d : 2 * suc p ≡ suc (suc (2 * p)) = omega arith in
    rw (e, d) (word_read bs p (omega arith))
