-- A problem that is read is valid.
use mathlib.Core.Path.{◌≡◌, sym, ◌∙◌, subst}
use mathlib.Core.List.{List, [], ◌∷◌, ◌++◌, append-nil}
use Prim.Native.Nat.{ℕ, ◌+◌, ◌-◌, ◌<◌, ◌≤◌}
use native.Mathlib.Omega.{arith}
use native.Mathlib.Decide.{dec_le}
use lib.ListN.{length}
use lib.Dec.{leb}
use lib.IntN.{ℤ}
use borrow.Author.Tests.{leb-true, le-leb, lt-leb}
use Rattle.calculus.specs.Limits.{most_bytes, most_sets, most_constraints, most_terms}
use Rattle.calculus.specs.Problem.{Problem, Numbered, Valid}
use Rattle.calculus.specs.Reading.{parsed, refused, ◌>>=◌, ask, words, ascending, in_range, letters, read_constants, read}
use Rattle.calculus.proofs.Bools.{and_l, and_r}
use Rattle.calculus.proofs.Words.{ascending_rising, range_is, letters_are}
use Rattle.calculus.proofs.Parsers.{one, counted, answered, then, no_answer, at_given}
use Rattle.calculus.proofs.ConstraintLaws.{last_le}
use Rattle.calculus.proofs.Sections.{whole, First, first_reads}

-- the first question is of the length alone
pub read_short : (bs : List ℕ) → length bs ≤ most_bytes → read bs ≡ read_constants bs
unfolding read ask ◌>>=◌
read_short bs l = rw (le-leb (length bs) most_bytes l)

pub read_long : (bs : List ℕ) → most_bytes < length bs → read bs ≡ refused 1
unfolding read ask ◌>>=◌
read_long bs l = rw (lt-leb (length bs) most_bytes l)

pub first_question : (bs : List ℕ) (prob : Problem) → read bs ≡ parsed prob → (length bs ≤ most_bytes) × (read_constants bs ≡ parsed prob)
first_question bs prob e = go (dec_le (length bs) most_bytes)
  where
    go : Dec (length bs ≤ most_bytes) → (length bs ≤ most_bytes) × (read_constants bs ≡ parsed prob)
    go (yes l) = (l, sym (read_short bs l) ∙ e)
    go (no l) = no_answer (sym (read_long bs (omega arith)) ∙ e)

-- what is read is written, and nothing is left over
pub read_first : (bs : List ℕ) (prob : Problem) → read_constants bs ≡ parsed prob → First prob bs
read_first bs prob e = let r = first_reads.wrote bs prob e in go r.0 r.1 r.2 r.3 r.4 r.5
  where
    go : (a : Problem) (u rest : List ℕ) → bs ≡ u ++ rest → whole a rest ≡ parsed prob → First a u → First prob bs
    go a u [] b q f = let z : a ≡ prob = cc in subst (λ (x : Problem). First x bs) z (rw (b, append-nil u) f)
    go a u (x ∷ rest) b q f = no_answer q

pub first_valid : (prob : Problem) (u : List ℕ) → First prob u → Valid prob
first_valid prob u (then (one {b = k}) (then (counted {xs = ws} e₁) (answered t₃ (then (one {b = n}) (then (counted {xs = ns} e₂) (answered t₄ (then (one {b = s}) (then (counted {xs = ss} e₃) (answered t₅ (then (one {b = m}) (answered t₆ (then {a = a} ls (answered t₁₁ w))))))))))))) =
    let cs : List ℤ = words ws in
    let N : ℕ = length cs + length ns in
    let end : a.1 ≡ N + (a.1 - N) = omega (arith, last_le a.0 N a.1 ls.3) in
    at_given (λ p _. Valid p) w (record {
      rising = ascending_rising cs (and_l (ascending cs) (in_range cs) t₃);
      range = range_is cs (and_r (ascending cs) (in_range cs) t₃);
      variables = letters_are 97 122 ns t₄;
      sets = letters_are 65 90 ss (and_l (letters 65 90 ss) (leb s most_sets) t₅);
      few_sets = omega (arith, leb-true s most_sets (and_r (letters 65 90 ss) (leb s most_sets) t₅));
      few_constraints = omega (arith, leb-true m most_constraints t₆, ls.0);
      refers = ls.2;
      numbered = subst (λ (x : ℕ). Numbered N x a.0) end ls.3;
      few_terms = omega (arith, leb-true a.1 most_terms t₁₁);
    })

pub read_valid : (bs : List ℕ) (prob : Problem) → read bs ≡ parsed prob → Valid prob
read_valid bs prob e = first_valid prob bs (read_first bs prob (first_question bs prob e).1)
