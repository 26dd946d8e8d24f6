-- Words gathered in a loop over `Ones`: what is found, and what the bits that are left gather, is what all gather.
use mathlib.Core.Path.{◌≡◌, refl, sym, ap, ap₂, ◌∙◌}
use mathlib.Core.Logic.{◌⊎◌, inl, inr}
use mathlib.Core.Bool.{Bool, true, false, ◌&&◌, ◌||◌, or-false, or_assoc, false≢true}
use mathlib.Core.List.{List}
use Prim.Native.Nat.{ℕ, zero, suc, ◌+◌, ◌^◌, ◌<◌, ◌≤◌}
use native.Mathlib.Omega.{arith}
use native.Mathlib.Decide.{ℕ_discrete}
use lib.ListN.{get_or}
use lib.Bits.{bit_or}
use Rattle.calculus.specs.Lists.{up_from, any, bit}
use Rattle.calculus.proofs.Bools.{or_cases, or_l, or_r}
use Rattle.bits.specs.Ones.{Takes}
use Rattle.bits.specs.Words.{gathers}
use Rattle.bits.proofs.Taking.{takes_here, takes_other, takes_left}
use Rattle.bits.proofs.Bits.{bit_of_or, bit_zero, bit_low, no_bit}

-- ---- some number from a on has a property

module _ (f : ℕ → Bool) where
  pub any_some : (n a : ℕ) → any f (up_from a n) ≡ true → (k : ℕ) × (k < a + n) × (f k ≡ true)
  any_some zero a e = absurd (false≢true e)
  any_some (suc n) a e = go (or_cases (f a) (any f (up_from (suc a) n)) e) (any_some n (suc a))
    where
      go : (f a ≡ true) ⊎ (any f (up_from (suc a) n) ≡ true) → (any f (up_from (suc a) n) ≡ true → (k : ℕ) × (k < suc a + n) × (f k ≡ true)) → (k : ℕ) × (k < a + suc n) × (f k ≡ true)
      go (inl q) ih = (a, omega arith, q)
      go (inr q) ih = let r = ih q in (r.0, omega (arith, r.1), r.2)

  pub any_has : (n a k : ℕ) → a ≤ k → k < a + n → f k ≡ true → any f (up_from a n) ≡ true
  any_has zero a k l h e = absurd (omega arith)
  any_has (suc n) a k l h e = go (ℕ_discrete a k) (λ x y. any_has n (suc a) k x y e)
    where
      go : Dec (a ≡ k) → (suc a ≤ k → k < suc a + n → any f (up_from (suc a) n) ≡ true) → (f a || any f (up_from (suc a) n)) ≡ true
      go (yes q) ih = or_l (any f (up_from (suc a) n)) (ap f q ∙ e)
      go (no q) ih = or_r (f a) (ih (omega arith) (omega arith))

-- ---- one bit first, and then the others

module _ {s k t : ℕ} (takes : Takes s k t) (q : ℕ → Bool) where
  same_above : (n a : ℕ) → k < a → any (λ (i : ℕ). bit s i && q i) (up_from a n) ≡ any (λ (i : ℕ). bit t i && q i) (up_from a n)
  same_above zero a l = refl
  same_above (suc n) a l = ap₂ (λ (x y : Bool). (x && q a) || y) (sym (takes_other takes a (λ e. omega arith))) (same_above n (suc a) (omega arith))

  any_next : (n a : ℕ) → a ≤ k → k < a + n → any (λ (i : ℕ). bit s i && q i) (up_from a n) ≡ (q k || any (λ (i : ℕ). bit t i && q i) (up_from a n))
  any_next zero a l h = absurd (omega arith)
  any_next (suc n) a l h = go (ℕ_discrete a k) (any_next n (suc a))
    where
      go : Dec (a ≡ k) → (suc a ≤ k → k < suc a + n → any (λ (i : ℕ). bit s i && q i) (up_from (suc a) n) ≡ (q k || any (λ (i : ℕ). bit t i && q i) (up_from (suc a) n))) → any (λ (i : ℕ). bit s i && q i) (up_from a (suc n)) ≡ (q k || any (λ (i : ℕ). bit t i && q i) (up_from a (suc n)))
      go (yes e) ih = rw (e, takes.set, takes_here takes) (ap (λ (x : Bool). q k || x) (same_above n (suc k) (omega arith)))
      go (no e) ih = rw (takes_other takes a e, takes.lowest a (omega arith)) (ih (omega arith) (omega arith))

pub record Gathering (words : List ℕ) (which found left : ℕ) : Type 0 where
  pub among : (k : ℕ) → bit left k ≡ true → bit which k ≡ true
  pub bits : (n i : ℕ) → which < 2 ^ n → (bit found i || gathers words left n i) ≡ gathers words which n i

pub gather_start : (words : List ℕ) (which : ℕ) → Gathering words which 0 which
gather_start words which = record { among = λ k e. e; bits = λ n i l. rw (bit_zero i) refl }

module _ {words : List ℕ} {which found left : ℕ} (g : Gathering words which found left) where
  pub gather_next : {low then : ℕ} → Takes left low then → Gathering words which (bit_or found (get_or words low 0)) then
  gather_next {low} {then} t = record {
    among = λ k e. g.among k (takes_left t k e);
    bits = λ n i l. let h = bit_low n which low l (g.among low t.set) in rw (bit_of_or found (get_or words low 0) i, or_assoc (bit found i) (bit (get_or words low 0) i) (gathers words then n i), ← any_next t (λ k. bit (get_or words k 0) i) n 0 (omega arith) (omega (arith, h))) (g.bits n i l);
  }

  pub gather_end : left ≡ 0 → (n i : ℕ) → which < 2 ^ n → bit found i ≡ gathers words which n i
  gather_end e n i l = sym (or-false (bit found i)) ∙ ap (λ (x : Bool). bit found i || x) (sym (none n 0)) ∙ g.bits n i l
    where
      none : (n a : ℕ) → any (λ (k : ℕ). bit left k && bit (get_or words k 0) i) (up_from a n) ≡ false
      none zero a = refl
      none (suc n) a = rw (no_bit left a e) (none n (suc a))
