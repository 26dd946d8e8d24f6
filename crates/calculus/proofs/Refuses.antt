-- Refusals: 1, bytes that are missing, bytes left over, and no number but document 01's.
use mathlib.Core.Path.{◌≡◌, sym, ◌∙◌, subst}
use mathlib.Core.Logic.{◌⊎◌, inl, inr}
use mathlib.Core.List.{List, ◌∷◌, ◌++◌}
use Prim.Native.Nat.{ℕ, ◌<◌, ◌≤◌}
use native.Mathlib.Omega.{arith}
use native.Mathlib.Decide.{dec_le}
use lib.ListN.{length, take, length-take}
use Rattle.calculus.specs.Limits.{most_bytes}
use Rattle.calculus.specs.Problem.{Problem}
use Rattle.calculus.specs.Encoding.{Written}
use Rattle.calculus.specs.Reading.{refused, read}
use Rattle.calculus.specs.Demands.{Refuses}
use Rattle.calculus.proofs.Sections.{First, first_reads}
use Rattle.calculus.proofs.ReadValid.{read_short, read_long}
use Rattle.calculus.proofs.ReadsWritten.{encode_first}

-- 1 is of the length alone, and every other number is from 2 to 11
abbrev Allowed : List ℕ → ℕ → Type 0
Allowed bs n = ((n ≡ 1) × (most_bytes < length bs)) ⊎ ((2 ≤ n) × (n ≤ 11))

number : (bs : List ℕ) (n : ℕ) → read bs ≡ refused n → Allowed bs n
number bs n e = go (dec_le (length bs) most_bytes)
  where
    go : Dec (length bs ≤ most_bytes) → Allowed bs n
    go (yes l) = inr (first_reads.numbers bs n (sym (read_short bs l) ∙ e))
    go (no l) = let r = sym (read_long bs (omega arith)) ∙ e in let z : n ≡ 1 = cc in inl (z, omega arith)

pub refuses : Refuses
refuses bs = ((λ e. long (number bs 1 e), read_long bs), λ n e. within n (number bs n e), λ prob small w. (cut prob w, over prob w))
  where
    long : Allowed bs 1 → most_bytes < length bs
    long (inl h) = h.1
    long (inr h) = absurd (omega (arith, h.0))

    within : (n : ℕ) → Allowed bs n → (1 ≤ n) × (n ≤ 11)
    within n (inl h) = (omega (arith, h.0), omega (arith, h.0))
    within n (inr h) = (omega (arith, h.0), h.1)

    written : (prob : Problem) → Written bs prob → First prob bs
    written prob w = subst (First prob) (sym w.encoded) (encode_first prob w.valid)

    cut : (prob : Problem) → Written bs prob → (k : ℕ) → k < length bs → read (take k bs) ≡ refused 2
    cut prob w k l = read_short (take k bs) (omega (arith, length-take k bs, w.short)) ∙ first_reads.cut prob bs k (written prob w) l

    over : (prob : Problem) → Written bs prob → (x : ℕ) (more : List ℕ) → length (bs ++ (x ∷ more)) ≤ most_bytes → read (bs ++ (x ∷ more)) ≡ refused 10
    over prob w x more l = read_short (bs ++ (x ∷ more)) l ∙ first_reads.reads prob bs (x ∷ more) (written prob w)
