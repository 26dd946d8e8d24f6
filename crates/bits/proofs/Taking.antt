-- What `Ones` gives: the lowest bit of a word, and the word without it. Loops over it rest on these facts.
use mathlib.Core.Path.{◌≡◌, refl, sym, ap, ◌∙◌}
use mathlib.Core.Bool.{Bool, ◌&&◌, true, false, and-true}
use Prim.Native.Nat.{ℕ, ◌-◌, ◌^◌, ◌<◌}
use native.Mathlib.Omega.{arith}
use native.Mathlib.Decide.{ℕ_discrete}
use lib.Bits.{bit_and, and_le_r}
use lib.Count.{count_trailing_zeros}
use borrow.Author.Tests.{eq-eqb, ne_eqb}
use Rattle.calculus.specs.Lists.{bit}
use Rattle.calculus.proofs.Bools.{clash}
use Rattle.bits.specs.Ones.{Takes}
use Rattle.bits.proofs.Bits.{bit_of_and, bits_same}
use Rattle.bits.proofs.Count.{lowest_lt, lowest_set, below_lowest, bit_less}

pub takes_lowest : (m : ℕ) → m < 2 ^ 64 → ¬ (m ≡ 0) → Takes m (count_trailing_zeros 64 m) (bit_and m (m - 1))
takes_lowest m l n = record {
  below = lowest_lt 64 m l n;
  set = lowest_set 64 m l n;
  lowest = below_lowest 64 m;
  rest = λ s. bit_less 64 m s l n;
}

module _ {s k t : ℕ} (takes : Takes s k t) where
  -- bit k is gone, and no other
  pub takes_here : bit t k ≡ false
  takes_here = takes.rest k ∙ rw (takes.set, eq-eqb k k refl) refl

  pub takes_other : (i : ℕ) → ¬ (i ≡ k) → bit t i ≡ bit s i
  takes_other i n = takes.rest i ∙ rw (ne_eqb i k n) (and-true (bit s i))

  -- a bit that is left was there
  pub takes_left : (i : ℕ) → bit t i ≡ true → bit s i ≡ true
  takes_left i e = go (ℕ_discrete i k)
    where
      go : Dec (i ≡ k) → bit s i ≡ true
      go (yes q) = rw q takes.set
      go (no q) = sym (takes_other i q) ∙ e

  pub takes_less : t < s
  takes_less =
      let part : bit_and t s ≡ t = bits_same (bit_and t s) t (λ i. bit_of_and t s i ∙ kept (bit t i) (bit s i) (takes_left i)) in
      let other : ¬ (t ≡ s) = λ e. clash takes.set (ap (λ (m : ℕ). bit m k) (sym e) ∙ takes_here) in
      omega (arith, and_le_r t s)
    where
      kept : (a b : Bool) → (a ≡ true → b ≡ true) → (a && b) ≡ a
      kept true b f = f refl
      kept false b f = refl
