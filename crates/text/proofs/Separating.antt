-- Texts with a separator between.
use mathlib.Core.Path.{◌≡◌, refl, sym, ap, ◌∙◌}
use mathlib.Core.Bool.{cond}
use mathlib.Core.List.{List, [], ◌∷◌, ◌++◌, map, append_assoc, append-nil}
use Prim.Native.Nat.{ℕ, ◌+◌, ◌/◌, ◌%◌, ◌≤◌}
use native.Mathlib.Omega.{arith}
use native.Mathlib.Nat.{add-zero}
use lib.ListN.{length, length-append}
use lib.Dec.{ltb}
use lib.IntN.{ℤ, pos, negsuc}
use borrow.Author.Tests.{eq-eqb, ne_eqb}
use Rattle.calculus.specs.Lists.{gather, Each}
use Rattle.text.specs.Text.{digits, decimal, number, separated, led}

pub led_none : (c start end : ℕ) → end ≡ start → led c start end ≡ []
unfolding led
led_none c start end e = rw (eq-eqb end start e) refl

pub led_one : (c start end : ℕ) → ¬ (end ≡ start) → led c start end ≡ c ∷ []
unfolding led
led_one c start end n = rw (ne_eqb end start n) refl

gather_more : (c : ℕ) (xs : List (List ℕ)) (y : List ℕ) → gather (λ (x : List ℕ). c ∷ x) (xs ++ (y ∷ [])) ≡ gather (λ (x : List ℕ). c ∷ x) xs ++ (c ∷ y)
gather_more c [] y = append-nil (c ∷ y)
gather_more c (x ∷ xs) y = ap (λ (l : List ℕ). (c ∷ x) ++ l) (gather_more c xs y) ∙ sym (append_assoc (c ∷ x) (gather (λ (x : List ℕ). c ∷ x) xs) (c ∷ y))

-- one more text: a separator first, unless nothing was written
pub separated_more : (c start : ℕ) (xs : List (List ℕ)) (y : List ℕ) → Each (λ x. 1 ≤ length x) xs → separated c (xs ++ (y ∷ [])) ≡ separated c xs ++ (led c start (start + length (separated c xs)) ++ y)
separated_more c start [] y e = rw (led_none c start (start + 0) (add-zero start)) (append-nil y)
separated_more c start (x ∷ xs) y e =
    let s : List ℕ = gather (λ (x : List ℕ). c ∷ x) xs in
    rw (led_one c start (start + length (x ++ s)) (λ q. omega (arith, q, length-append x s, e.0)))
    (ap (λ (l : List ℕ). x ++ l) (gather_more c xs y) ∙ sym (append_assoc x s (c ∷ y)))

-- ---- no text is empty

pub decimal_long : (n : ℕ) → 1 ≤ length (decimal n)
unfolding decimal
decimal_long n = omega (arith, length-append (cond (ltb n 10) [] (digits n (n / 10))) ((48 + n % 10) ∷ []))

pub number_long : (z : ℤ) → 1 ≤ length (number z)
number_long (pos n) = decimal_long n
number_long (negsuc n) = omega arith

pub all_long : (zs : List ℤ) → Each (λ x. 1 ≤ length x) (map number zs)
all_long [] = tt
all_long (z ∷ zs) = (number_long z, all_long zs)
