-- A problem is read exactly where it is written.
use mathlib.Core.Path.{◌≡◌, refl, sym, ◌∙◌, ap, subst}
use mathlib.Core.Bool.{◌&&◌}
use mathlib.Core.List.{List, [], ◌∷◌, ◌++◌, append-nil, append_assoc}
use Prim.Native.Nat.{ℕ, ◌+◌, ◌-◌, ◌<◌}
use native.Mathlib.Omega.{arith}
use lib.ListN.{length}
use lib.IntN.{ℤ}
use borrow.Author.Tests.{le-leb}
use Rattle.calculus.specs.Limits.{most_sets, most_constraints, most_terms}
use Rattle.calculus.specs.Lists.{gather}
use Rattle.calculus.specs.Problem.{Problem, nameable, term_count, set_count, Valid}
use Rattle.calculus.specs.Encoding.{Bytes, two_bytes, encode_constraint, encode, Written}
use Rattle.calculus.specs.Reading.{parsed, words, ascending, in_range, read}
use Rattle.calculus.specs.Demands.{Reads}
use Rattle.calculus.proofs.Bools.{and_i, each_left}
use Rattle.calculus.proofs.Words.{words_encoded, encoded_words, words_length, encoded_length, range_fits16, rising_ascending, is_range, are_letters}
use Rattle.calculus.proofs.Parsers.{one, counted, given, Asked, answered, then, at_given}
use Rattle.calculus.proofs.Sections.{First, Second, Third, Fourth, made, first_reads}
use Rattle.calculus.proofs.ReadValid.{read_short, first_question, read_first, first_valid}

regroup : (a b c d : List ℕ) → a ++ b ++ c ++ d ≡ a ++ (b ++ (c ++ d))
regroup a b c d = append_assoc (a ++ b) c d ∙ append_assoc a b (c ++ d)

first_encoded : (prob : Problem) (u : List ℕ) → Bytes u → First prob u → u ≡ encode prob
first_encoded prob u bs (then (one {b = k}) (then (counted {xs = ws} e₁) (answered t₃ (then (one {b = n}) (then (counted {xs = ns} e₂) (answered t₄ (then (one {b = s}) (then (counted {xs = ss} e₃) (answered t₅ (then (one {b = m}) (answered t₆ (then {a = a} {u = x} ls (answered t₁₁ w))))))))))))) =
    at_given (λ p v. k ∷ ws ++ (n ∷ ns ++ (s ∷ ss ++ (m ∷ x ++ v))) ≡ encode p) w (rw (words_length k ws e₁, encoded_words k ws (each_left (λ x. x < 256) ws _ bs.1) e₁, e₂, e₃, ls.0, append-nil x, ls.1) (sym (regroup (k ∷ ws) (n ∷ ns) (s ∷ ss) (m ∷ gather encode_constraint a.0))))

-- a valid problem, as it is encoded
module _ (prob : Problem) (ok : Valid prob) where
  -- the bytes from each section on
  abbrev bytes₄ : List ℕ
  bytes₄ = length prob.constraints ∷ gather encode_constraint prob.constraints

  abbrev bytes₃ : List ℕ
  bytes₃ = (set_count prob ∷ prob.sets) ++ bytes₄

  abbrev bytes₂ : List ℕ
  bytes₂ = (length prob.variables ∷ prob.variables) ++ bytes₃

  fourth : Fourth prob.constants prob.variables prob.sets prob bytes₄
  fourth =
      let z : nameable prob + prob.witnesses - nameable prob ≡ prob.witnesses = omega arith in
      let q : made prob.constants prob.variables prob.sets (prob.constraints, term_count prob) ≡ prob = ap (λ (w : ℕ). record { constants = prob.constants; variables = prob.variables; sets = prob.sets; witnesses = w; constraints = prob.constraints }) z in
      subst (λ (c : Problem). Fourth prob.constants prob.variables prob.sets c bytes₄) q (rw (← append-nil (gather encode_constraint prob.constraints))
      (then one (answered (le-leb (length prob.constraints) most_constraints ok.few_constraints) (then {a = (prob.constraints, term_count prob)} {u = gather encode_constraint prob.constraints} (refl, refl, ok.refers, ok.numbered) (answered (le-leb (term_count prob) most_terms ok.few_terms) given)))))

  third : Third prob.constants prob.variables prob bytes₃
  third = then one (then (counted refl) (answered (and_i (are_letters 65 90 prob.sets ok.sets) (le-leb (set_count prob) most_sets ok.few_sets)) fourth))

  second : Second prob.constants prob bytes₂
  second = then one (then (counted refl) (answered (are_letters 97 122 prob.variables ok.variables) third))

  pub encode_first : First prob (encode prob)
  encode_first =
      let cs : List ℤ = prob.constants in
      let e : words (gather two_bytes cs) ≡ cs = words_encoded cs (range_fits16 cs ok.range) in
      rw (regroup (length cs ∷ gather two_bytes cs) (length prob.variables ∷ prob.variables) (set_count prob ∷ prob.sets) bytes₄)
      (then (one {b = length cs}) (then (counted {xs = gather two_bytes cs} (encoded_length cs)) (subst (λ (xs : List ℤ). Asked (ascending xs && in_range xs) (Second xs) prob bytes₂) (sym e) (answered (and_i (rising_ascending cs ok.rising) (is_range cs ok.range)) second))))

pub reads : Reads
reads bs small prob = (to, from)
  where
    to : read bs ≡ parsed prob → Written bs prob
    to e =
        let q = first_question bs prob e in
        let f = read_first bs prob q.1 in
        record { encoded = first_encoded prob bs small f; short = q.0; valid = first_valid prob bs f }

    from : Written bs prob → read bs ≡ parsed prob
    from w = read_short bs w.short ∙ (rw (w.encoded, ← append-nil (encode prob)) (first_reads.reads prob (encode prob) [] (encode_first prob w.valid)))
