-- Words that the code changes one after another, from the lowest number.
use mathlib.Core.Path.{◌≡◌, refl, sym, ap, ap₂, ◌∙◌, subst}
use mathlib.Core.Bool.{Bool, true, false, ◌&&◌, ◌||◌, not, cond}
use mathlib.Core.List.{List, [], ◌∷◌}
use Prim.Native.Nat.{ℕ, zero, suc, ◌-◌, ◌/◌, ◌^◌, ◌<◌}
use native.Mathlib.Omega.{arith}
use native.Mathlib.Decide.{ℕ_discrete}
use lib.ListN.{length, get_or, set, length-set}
use lib.Seq.{get_or-set_same, get_or-set_other, ext_get_or}
use lib.Bits.{bit_or, or_lt, and_lt}
use lib.Pow.{ones_sub-lt}
use Rattle.calculus.specs.Lists.{bit}
use Rattle.bits.proofs.Bits.{bit_of_or, bit_of_and, bit_not}
use Rattle.bits.specs.Ones.{Takes}
use Rattle.bits.proofs.Taking.{takes_here, takes_other}
use Rattle.bits.specs.Words.{turn, turn_words}

-- a bit below 64 of a word that was turned
pub bit_turn : (on off w s : ℕ) → off < 2 ^ 64 → s < 64 → bit (turn on off w) s ≡ ((bit w s || bit on s) && not (bit off s))
unfolding turn
bit_turn on off w s h l = bit_of_and (bit_or w on) ((2 ^ 64 - 1) - off) s ∙ ap₂ (λ (x y : Bool). x && y) (bit_of_or w on s) (bit_not 64 off s h l)

module _ (on off : ℕ) where
  pub turn_length : (m : ℕ) (words : List ℕ) → length (turn_words on off m words) ≡ length words
  unfolding turn_words
  turn_length m [] = refl
  turn_length m (w ∷ words) = ap suc (turn_length (m / 2) words)

  -- each word whose number is a bit of m is turned
  pub turn_at : (m : ℕ) (words : List ℕ) (k : ℕ) → k < length words → get_or (turn_words on off m words) k 0 ≡ cond (bit m k) (turn on off (get_or words k 0)) (get_or words k 0)
  unfolding turn_words
  turn_at m [] k h = absurd (omega arith)
  turn_at m (w ∷ words) zero h = refl
  turn_at m (w ∷ words) (suc k) h = turn_at (m / 2) words k (omega arith)

  turn_bit : (w k : ℕ) (m : Bool) → off < 2 ^ 64 → k < 64 → bit (cond m (turn on off w) w) k ≡ cond m ((bit w k || bit on k) && not (bit off k)) (bit w k)
  turn_bit w k true h l = bit_turn on off w k h l
  turn_bit w k false h l = refl

  -- its bits
  pub turn_bit_at : (m : ℕ) (words : List ℕ) (k j : ℕ) → k < length words → off < 2 ^ 64 → j < 64
      → bit (get_or (turn_words on off m words) k 0) j ≡ cond (bit m k) ((bit (get_or words k 0) j || bit on j) && not (bit off j)) (bit (get_or words k 0) j)
  turn_bit_at m words k j l h lj = ap (λ (n : ℕ). bit n j) (turn_at m words k l) ∙ turn_bit (get_or words k 0) j (bit m k) h lj

  pub turn_small : (m : ℕ) (words : List ℕ) (k : ℕ) → k < length words → on < 2 ^ 64 → get_or words k 0 < 2 ^ 64 → get_or (turn_words on off m words) k 0 < 2 ^ 64
  unfolding turn
  turn_small m words k l h s = subst (λ (x : ℕ). x < 2 ^ 64) (sym (turn_at m words k l)) (go (bit m k))
    where
      go : (x : Bool) → cond x (turn on off (get_or words k 0)) (get_or words k 0) < 2 ^ 64
      go true = and_lt 64 _ _ (or_lt 64 (get_or words k 0) on s h) (ones_sub-lt 64 off)
      go false = s

  pub turn_none : (m : ℕ) (words : List ℕ) → m ≡ 0 → turn_words on off m words ≡ words
  unfolding turn_words
  turn_none m [] e = refl
  turn_none m (w ∷ words) e =
      let z : m / 2 ≡ 0 = omega arith in
      ap₂ (λ (x : ℕ) (xs : List ℕ). x ∷ xs) (ap (λ (n : ℕ). cond (bit n 0) (turn on off w) w) e) (turn_none (m / 2) words z)

  -- the lowest first, and then the others
  module _ {s k t : ℕ} (takes : Takes s k t) (words : List ℕ) (below : k < length words) where
    abbrev first : List ℕ
    first = set words k (turn on off (get_or words k 0))

    at : (j : ℕ) → j < length words → Dec (j ≡ k) → get_or (turn_words on off t first) j 0 ≡ get_or (turn_words on off s words) j 0
    at j l d = turn_at t first j (omega (arith, length-set words k (turn on off (get_or words k 0)))) ∙ go d ∙ sym (turn_at s words j l)
      where
        go : Dec (j ≡ k) → cond (bit t j) (turn on off (get_or first j 0)) (get_or first j 0) ≡ cond (bit s j) (turn on off (get_or words j 0)) (get_or words j 0)
        go (yes e) = rw (e, takes_here takes, takes.set, get_or-set_same words k (turn on off (get_or words k 0)) 0 below) refl
        go (no n) = rw (takes_other takes j n, get_or-set_other words k j (turn on off (get_or words k 0)) 0 n) refl

    pub turn_next : turn_words on off t first ≡ turn_words on off s words
    turn_next =
        ext_get_or 0 (turn_words on off t first) (turn_words on off s words)
        (turn_length t first ∙ length-set words k (turn on off (get_or words k 0)) ∙ sym (turn_length s words))
        (λ j l. at j (omega (arith, turn_length t first, length-set words k (turn on off (get_or words k 0)))) (ℕ_discrete j k))
