-- Printed by tests/print-cases from rows/AnswerWords.rows: do not edit.
-- The answer word of each case: bits 0 to 7 the verdict, 8 to 15 the refusal number or the failing constraint, 16 to 31 the steps, 32 to 63 the solved forms.
use mathlib.Core.Path.{◌≡◌, refl}
use mathlib.Core.List.{List, [], ◌∷◌, map}
use Prim.Native.Nat.{ℕ}
use Rattle.calculus.specs.Calls.{Answer, refusal, ended, FORMS, FALSE, SPENT, NOROOM, answer_word, Checked, declined, HOLDS, FAILS, check_word}

unfoldable pub runs : List (Answer × ℕ)
runs =
    -- refused by question 13
    (refusal 13, 0x0D00)
    -- C1, C7, C2 and C3
    ∷ (ended FORMS 5 1, 0x0001_0005_0001)
    ∷ (ended FALSE 1 0, 0x0001_0002)
    ∷ (ended SPENT 4 0, 0x0004_0003)
    ∷ (ended NOROOM 5 0, 0x0005_0004)
    -- the most steps, and more than 16 bits of solved forms
    ∷ (ended FORMS 10000 70000, 0x0001_1170_2710_0001)
    ∷ []

unfoldable pub checks : List (Checked × ℕ)
checks =
    (declined 14, 0x0E00)
    ∷ (HOLDS, 0x0005)
    -- the first and the last constraint that there can be
    ∷ (FAILS 0, 0x0006)
    ∷ (FAILS 47, 0x2F06)
    ∷ []

pub rows_hold : (map (λ (r : Answer × ℕ). answer_word r.0) runs ≡ map (λ (r : Answer × ℕ). r.1) runs) × (map (λ (r : Checked × ℕ). check_word r.0) checks ≡ map (λ (r : Checked × ℕ). r.1) checks)
unfolding runs checks answer_word check_word
rows_hold = (refl, refl)
