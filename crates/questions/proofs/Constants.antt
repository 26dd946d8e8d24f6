-- The constants of a problem, one by one: each is two bytes at its place. Of those that rise, the two ends tell question 9.
use mathlib.Core.Path.{◌≡◌, refl, sym, ap, ap₂, ◌∙◌}
use mathlib.Core.Bool.{Bool, true, false, ◌&&◌, false≢true}
use mathlib.Core.List.{List, [], ◌∷◌, map}
use Prim.Native.Nat.{ℕ, zero, suc, ◌+◌, ◌*◌, ◌-◌, ◌/◌, ◌<◌, ◌≤◌}
use native.Mathlib.Omega.{arith}
use lib.ListN.{length, get_or, take, drop, length-take, length-drop}
use lib.Dec.{eqb}
use lib.IntN.{ℤ, pos, negsuc, suc_ℤ, ◌+ℤ◌, ◌-ℤ◌}
use lib.Signed.{◌<ℤ◌, ◌≤ℤ◌}
use borrow.Author.Tests.{eq-eqb, eqb-true, ne_eqb}
use Rattle.std.specs.Int.RustNames.{unsigned_abs}
use Rattle.std.proofs.lemmas.Int.{ints}
use Rattle.calculus.specs.Lists.{all, up_from}
use Rattle.calculus.specs.Problem.{Rising}
use Rattle.calculus.specs.Reading.{words, eq_z, gapless}
use Rattle.calculus.proofs.Bools.{same_test}
use Rattle.calculus.proofs.Membership.{eq_z_eq, eq_eq_z}
use Rattle.calculus.proofs.Sequences.{at}
use Rattle.calculus.proofs.Words.{words_length}
use Rattle.slices.specs.Bytes.{word_at}
use Rattle.slices.proofs.Parts.{two_more}
use Rattle.slices.proofs.TwoBytes.{word_read}
use Rattle.questions.specs.Questions.{constant_at, constants_of}

-- ---- how many numbers bytes are

pub words_count : (bs : List ℕ) → length (words bs) ≡ length bs / 2
words_count [] = refl
words_count (a ∷ []) = refl
words_count (a ∷ b ∷ bs) = omega (arith, words_count bs)

-- ---- the first k constants of a problem

module _ (bs : List ℕ) where
  from : (k s : ℕ) → 1 + 2 * (s + k) ≤ length bs → words (take (2 * k) (drop (1 + 2 * s) bs)) ≡ map (constant_at bs) (up_from s k)
  from zero s l = refl
  from (suc k) s l =
      let two : 2 * suc k ≡ suc (suc (2 * k)) = omega arith in
      ap₂ (λ (n : ℕ) (t : List ℕ). words (take n t)) two (two_more bs (1 + 2 * s) (1 + 2 * suc s) (omega arith) (omega arith)) ∙ ap (λ (t : List ℤ). constant_at bs s ∷ t) (from k (suc s) (omega arith))

  pub constants_are : (k : ℕ) → 1 + 2 * k ≤ length bs → constants_of bs k ≡ map (constant_at bs) (up_from 0 k)
  unfolding constants_of
  constants_are k l = from k 0 (omega arith)

  pub constants_length : (k : ℕ) → 1 + 2 * k ≤ length bs → length (constants_of bs k) ≡ k
  unfolding constants_of
  constants_length k l = words_length k (take (2 * k) (drop 1 bs)) (omega (arith, length-take (2 * k) (drop 1 bs), length-drop 1 bs))

  pub constant_read_at : (k p : ℕ) → 1 + 2 * k ≤ length bs → p < k → get_or (constants_of bs k) p (pos 0) ≡ constant_at bs p
  constant_read_at k p l h = ap (λ (cs : List ℤ). get_or cs p (pos 0)) (constants_are k l) ∙ at (constant_at bs) 0 k p p (pos 0) h (omega arith)

-- ---- question 9: of rising constants, by the two ends

next : (x : ℤ) → suc_ℤ x ≡ x +ℤ pos 1
next (pos n) = omega (arith, ints)
next (negsuc zero) = refl
next (negsuc (suc n)) = omega (arith, ints)

module _ (bs : List ℕ) (up : Rising (words bs)) where
  -- constant p
  abbrev At : ℕ → ℤ
  At p = word_at bs (2 * p)

  -- constant p is there
  abbrev There : ℕ → Type 0
  There p = 2 * p + 1 < length bs

  -- constant p + 1 is one more than constant p
  abbrev follows : ℕ → Bool
  follows p = eq_z (get_or (words bs) (suc p) (pos 0)) (suc_ℤ (get_or (words bs) p (pos 0)))

  rises : (p : ℕ) → There (suc p) → At p <ℤ At (suc p)
  rises p l = rw (word_read bs p (omega arith), word_read bs (suc p) l) at (up p (suc p) (omega arith) (omega (arith, words_count bs)))

  -- d places on, a value is at least d higher
  climbs : (d i : ℕ) → There (i + d) → (At i +ℤ pos d) ≤ℤ At (i + d)
  climbs zero i l = let e : i + 0 ≡ i = omega arith in rw e (omega (arith, ints))
  climbs (suc d) i l = let e : i + suc d ≡ suc i + d = omega arith in rw e (omega (arith, ints, climbs d (suc i) (omega arith), rises i (omega arith)))

  by_ends : (d i : ℕ) → There (i + d) → eqb (unsigned_abs (At (i + d) -ℤ At i)) d ≡ all follows (up_from i d)
  by_ends zero i l = let e : i + 0 ≡ i = omega arith in rw e (eq-eqb (unsigned_abs (At i -ℤ At i)) 0 (omega (arith, ints)))
  by_ends (suc d) i l =
      let e : i + suc d ≡ suc i + d = omega arith in
      ap (λ (p : ℕ). eqb (unsigned_abs (At p -ℤ At i)) (suc d)) e
      ∙ both (At (suc i + d)) (At (suc i)) (At i) d (climbs d (suc i) (omega arith)) (rises i (omega arith))
      ∙ ap₂ (λ (x y : Bool). x && y) (sym (ap₂ (λ (x y : ℤ). eq_z x (suc_ℤ y)) (word_read bs (suc i) (omega arith)) (word_read bs i (omega arith)))) (by_ends d (suc i) (omega arith))
    where
      both : (z y x : ℤ) (d : ℕ) → (y +ℤ pos d) ≤ℤ z → x <ℤ y → eqb (unsigned_abs (z -ℤ x)) (suc d) ≡ (eq_z y (suc_ℤ x) && eqb (unsigned_abs (z -ℤ y)) d)
      both z y x d c r = go (eq_z y (suc_ℤ x)) refl
        where
          go : (t : Bool) → eq_z y (suc_ℤ x) ≡ t → eqb (unsigned_abs (z -ℤ x)) (suc d) ≡ (t && eqb (unsigned_abs (z -ℤ y)) d)
          go true e =
              let q : y ≡ x +ℤ pos 1 = eq_z_eq y (suc_ℤ x) e ∙ next x in
              let f : unsigned_abs (z -ℤ x) ≡ suc (unsigned_abs (z -ℤ y)) = omega (arith, ints, q, c) in
              same_test (eqb (unsigned_abs (z -ℤ x)) (suc d)) (eqb (unsigned_abs (z -ℤ y)) d) (λ h. eq-eqb _ _ (omega (arith, f, eqb-true _ _ h))) (λ h. eq-eqb _ _ (omega (arith, f, eqb-true _ _ h)))
          go false e =
              ne_eqb (unsigned_abs (z -ℤ x)) (suc d) (λ q.
              let h : y ≡ x +ℤ pos 1 = omega (arith, ints, c, r, q) in
              false≢true (sym e ∙ eq_eq_z y (suc_ℤ x) (h ∙ sym (next x))))

  pub between : (i j : ℕ) → i < j → There j → eqb (unsigned_abs (At j -ℤ At i)) (j - i) ≡ gapless (words bs) i j
  between i j l h = let e : i + (j - i) ≡ j = omega arith in rw e at (by_ends (j - i) i (omega arith))
