-- The four sections of a problem: `readConstants` recognizes a problem as it is written, and leaves nothing over.
use mathlib.Core.Path.{◌≡◌, refl, sym, ◌∙◌}
use mathlib.Core.Bool.{Bool, true, false, ◌&&◌}
use mathlib.Core.List.{List, [], ◌∷◌, ◌++◌}
use Prim.Native.Nat.{ℕ, ◌+◌, ◌*◌, ◌-◌, ◌<◌, ◌≤◌}
use native.Mathlib.Omega.{arith}
use lib.ListN.{length, take}
use lib.Dec.{leb, eqb, eqb-suc-zero}
use lib.IntN.{ℤ}
use Rattle.calculus.specs.Limits.{most_sets, most_constraints, most_terms}
use Rattle.calculus.specs.Meaning.{Constraint}
use Rattle.calculus.specs.Problem.{Problem, Rising}
use Rattle.calculus.specs.Reading.{Parsed, parsed, refused, ◌>>=◌, ask, words, ascending, in_range, letters, read_constraints, read_sets, read_variables, read_constants}
use Rattle.calculus.proofs.Bools.{and_l}
use Rattle.calculus.proofs.Words.{ascending_rising}
use Rattle.calculus.proofs.Parsers.{Recognizes, OneByte, Counted, Given, given, Asked, answered, Then, no_answer, no_refusal, byte_reads, bytes_read, asks, and_then}
use Rattle.calculus.proofs.ConstraintParsers.{WrittenConstraints, constraints_read}

-- the answer where a problem is written and rest follows
abbrev pub whole : Problem → List ℕ → Parsed Problem
whole prob [] = parsed prob
whole prob (x ∷ rest) = refused 10

module _ (prob : Problem) (t : Bool) where
  abbrev end : List ℕ → Parsed Problem
  end bs = ask 10 (eqb (length bs) 0) >>= λ _. ask 11 t >>= λ _. parsed prob

  ends : Recognizes whole (Asked t (Given prob)) end
  unfolding ◌>>=◌ ask
  ends = record { reads = reads; wrote = wrote t refl; cut = cut; numbers = numbers t refl }
    where
      over : (x : ℕ) (bs : List ℕ) → end (x ∷ bs) ≡ refused 10
      over x bs = rw (eqb-suc-zero (length bs))

      reads : (c : Problem) (u rest : List ℕ) → Asked t (Given prob) c u → end (u ++ rest) ≡ whole c rest
      reads c u [] (answered e given) = rw e
      reads c u (x ∷ rest) (answered e given) = over x rest

      wrote : (s : Bool) → t ≡ s → (bs : List ℕ) (c : Problem) → end bs ≡ parsed c → (a : Problem) × (u rest : List ℕ) × (bs ≡ u ++ rest) × (whole a rest ≡ parsed c) × Asked t (Given prob) a u
      wrote true q [] c e = (prob, [], [], refl, rw q at e, answered q given)
      wrote false q [] c e = no_answer (rw q at e)
      wrote s q (x ∷ bs) c e = no_answer (sym (over x bs) ∙ e)

      cut : (c : Problem) (u : List ℕ) (k : ℕ) → Asked t (Given prob) c u → k < length u → end (take k u) ≡ refused 2
      cut c u k (answered e given) l = absurd (omega arith)

      numbers : (s : Bool) → t ≡ s → (bs : List ℕ) (n : ℕ) → end bs ≡ refused n → (2 ≤ n) × (n ≤ 11)
      numbers true q [] n e = no_refusal (rw q at e)
      numbers false q [] n e = let r = rw q at e in let z : 11 ≡ n = cc in (omega arith, omega arith)
      numbers s q (x ∷ bs) n e = let r = sym (over x bs) ∙ e in let z : 10 ≡ n = cc in (omega arith, omega arith)

module _ (cs : List ℤ) (ns : List ℕ) where
  abbrev N : ℕ
  N = length cs + length ns

  abbrev pub made : List ℕ → List Constraint × ℕ → Problem
  made ss a = record { constants = cs; variables = ns; sets = ss; witnesses = a.1 - N; constraints = a.0 }

  -- what each section and those after it are: the constraints, the sets, the variables, the constants
  abbrev pub Fourth : List ℕ → Problem → List ℕ → Type 0
  Fourth ss = Then OneByte (λ m. Asked (leb m most_constraints) (Then (WrittenConstraints cs N (length ss) N m) (λ a. Asked (leb a.1 most_terms) (Given (made ss a)))))

  abbrev pub Third : Problem → List ℕ → Type 0
  Third = Then OneByte (λ s. Then (Counted s) (λ ss. Asked (letters 65 90 ss && leb s most_sets) (Fourth ss)))

  module _ (up : Rising cs) where
    fourth_reads : (ss : List ℕ) → Recognizes whole (Fourth ss) (read_constraints cs ns ss)
    unfolding read_constraints
    fourth_reads ss = and_then _ byte_reads (λ m. asks 6 _ (omega arith, omega arith) (λ _. and_then _ (constraints_read cs N (length ss) up (omega arith) m N) (λ a. ends (made ss a) (leb a.1 most_terms))))

    third_reads : Recognizes whole Third (read_sets cs ns)
    unfolding read_sets
    third_reads = and_then _ byte_reads (λ s. and_then _ (bytes_read s) (λ ss. asks 5 _ (omega arith, omega arith) (λ _. fourth_reads ss)))

abbrev pub Second : List ℤ → Problem → List ℕ → Type 0
Second cs = Then OneByte (λ n. Then (Counted n) (λ ns. Asked (letters 97 122 ns) (Third cs ns)))

second_reads : (cs : List ℤ) → Rising cs → Recognizes whole (Second cs) (read_variables cs)
unfolding read_variables
second_reads cs up = and_then _ byte_reads (λ n. and_then _ (bytes_read n) (λ ns. asks 4 _ (omega arith, omega arith) (λ _. third_reads cs ns up)))

abbrev pub First : Problem → List ℕ → Type 0
First = Then OneByte (λ k. Then (Counted (2 * k)) (λ ws. Asked (ascending (words ws) && in_range (words ws)) (Second (words ws))))

pub first_reads : Recognizes whole First read_constants
unfolding read_constants
first_reads = and_then _ byte_reads (λ k. and_then _ (bytes_read (2 * k)) (λ ws. asks 3 _ (omega arith, omega arith) (λ t. second_reads (words ws) (ascending_rising (words ws) (and_l _ _ t)))))
