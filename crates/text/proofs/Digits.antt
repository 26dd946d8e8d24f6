-- Decimal digits read back as their number.
use mathlib.Core.Path.{◌≡◌, refl, sym, ◌∙◌}
use mathlib.Core.List.{List, [], ◌∷◌, ◌++◌}
use Prim.Native.Nat.{ℕ, zero, suc, ◌+◌, ◌*◌, ◌-◌, ◌/◌, ◌%◌, ◌<◌, ◌≤◌}
use native.Mathlib.Omega.{arith}
use native.Mathlib.Decide.{dec_lt}
use lib.ListN.{get_or, get_or-append}
use Rattle.calculus.specs.Lists.{Each}
use Rattle.calculus.proofs.Bools.{each_app}
use Rattle.text.specs.Text.{decimal, worth, ReadsBack}
use Rattle.text.proofs.Texts.{decimal_one, decimal_more}
use Rattle.text.proofs.Separating.{decimal_long}

worth_more : (n : ℕ) (ds : List ℕ) (d : ℕ) → worth n (ds ++ (d ∷ [])) ≡ 10 * worth n ds + (d - 48)
worth_more n [] d = refl
worth_more n (e ∷ ds) d = worth_more (10 * n + (e - 48)) ds d

back : (k n : ℕ) → n < k → (worth 0 (decimal n) ≡ n) × Each (λ d. (48 ≤ d) × (d ≤ 57)) (decimal n) × (1 ≤ n → ¬ (get_or (decimal n) 0 48 ≡ 48))
back zero n l = absurd (omega arith)
back (suc k) n l = go (dec_lt n 10) (back k (n / 10))
  where
    Back : ℕ → Type 0
    Back n = (worth 0 (decimal n) ≡ n) × Each (λ d. (48 ≤ d) × (d ≤ 57)) (decimal n) × (1 ≤ n → ¬ (get_or (decimal n) 0 48 ≡ 48))

    go : Dec (n < 10) → (n / 10 < k → Back (n / 10)) → Back n
    go (yes q) h = rw (decimal_one n q) (omega arith, ((omega arith, omega arith), tt), λ p e. omega (arith, p, e))
    go (no q) h =
        let b = h (omega arith) in
        rw (decimal_more n (omega arith)) (
          worth_more 0 (decimal (n / 10)) (48 + n % 10) ∙ omega (arith, b.0),
          each_app (λ (d : ℕ). (48 ≤ d) × (d ≤ 57)) (decimal (n / 10)) ((48 + n % 10) ∷ []) b.1 ((omega arith, omega arith), tt),
          λ p e. b.2 (omega arith) (sym (get_or-append (decimal (n / 10)) ((48 + n % 10) ∷ []) 48 0 (decimal_long (n / 10))) ∙ e),
        )

pub reads_back : ReadsBack
reads_back n = let b = back (suc n) n (omega arith) in (b.0, b.1, λ e. only n e b.2)
  where
    only : (n : ℕ) → get_or (decimal n) 0 48 ≡ 48 → (1 ≤ n → ¬ (get_or (decimal n) 0 48 ≡ 48)) → decimal n ≡ 48 ∷ []
    only zero e h = decimal_one 0 (omega arith)
    only (suc n) e h = absurd (h (omega arith) e)
