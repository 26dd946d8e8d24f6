-- What a call answers, question by question, and when it runs.
use mathlib.Core.Path.{◌≡◌, refl, ap, ◌∙◌}
use mathlib.Core.List.{List, [], ◌∷◌}
use Prim.Native.Nat.{ℕ, zero, suc, ◌*◌, ◌≤◌, ◌<◌}
use native.Mathlib.Omega.{arith}
use lib.ListN.{length, get_or}
use Rattle.std.specs.Prelude.{Ok, Err}
use Rattle.calculus.specs.Limits.{most_steps}
use Rattle.calculus.specs.Problem.{Problem}
use Rattle.calculus.specs.Encoding.{Bytes}
use Rattle.calculus.specs.Reading.{parsed, refused, read}
use Rattle.calculus.specs.Run.{End, DONE, run}
use Rattle.calculus.specs.Calls.{FORMS, refusal, ended, Outcome, verdict_of, asked, call, answer_word}
use Rattle.calculus.proofs.AnswerLaws.{steps_few, forms_fit}
use Rattle.calculus.proofs.CallLaws.{asks, kept}
use Rattle.questions.specs.declared.refusal.Refusal.{Refusal}
use Rattle.questions.specs.Answers.{number_of, Answers}
use Rattle.questions.proofs.Answers.{was_refused, was_parsed}
use Rattle.problem.specs.declared.accepted.Problem as code
use Rattle.problem.specs.Table.{TableOf}
use Rattle.records.specs.declared.Counts.{Counts}
use Rattle.records.specs.State.{State, state, state_left}
use Rattle.solver.specs.ComesTo.{Runs}
use Rattle.capi.specs.Contract.{RunContract, Determined}
use Rattle.capi.proofs.Contracted.{contract}

-- what `read` answers: a problem with its bytes and its table
abbrev pub ReadAs : List ℕ → Problem → code.Problem → Type 0
ReadAs bs prob p = (p.bytes.now ≡ bs) × TableOf prob p.table

pub read_refused : (bs : List ℕ) (q : Refusal) → Answers (ReadAs bs) (read bs) (Err q) → read bs ≡ refused (number_of q)
read_refused bs q h = was_refused (ReadAs bs) (read bs) q h

pub read_parsed : (bs : List ℕ) (p : code.Problem) → Answers (ReadAs bs) (read bs) (Ok p) → (prob : Problem) × (read bs ≡ parsed prob) × ReadAs bs prob p
read_parsed bs p h = was_parsed (ReadAs bs) (read bs) p h

pub some_forms : (n : ℕ) → ¬ (n ≡ 0) → verdict_of DONE n ≡ FORMS
some_forms zero h = absurd (h refl)
some_forms (suc n) h = refl

-- the elements of a slice of bytes are bytes
pub bytes_of : (xs : List ℕ) → ((i : ℕ) → get_or xs i 0 < 256) → Bytes xs
bytes_of [] h = tt
bytes_of (x ∷ xs) h = (h 0, bytes_of xs (λ i. h (suc i)))

module _ (bs : List ℕ) (budget : ℕ) (F T : List ℕ) where
  determined : (o : Outcome) → call bs budget F T ≡ o → (w : ℕ) → w ≡ answer_word o.answer → Determined bs budget F T w o.forms o.trace
  determined o e w q = rw e (q, refl, refl)

  -- what is determined meets the contract
  pub contracted : Bytes bs → (w : ℕ) (G U : List ℕ) → Determined bs budget F T w G U → RunContract bs budget F T w G U
  contracted is w G U d = rw (d.0, d.1, d.2) (contract bs budget F T is)

  -- ---- refusals

  pub refused_so : (n : ℕ) → asked bs budget (length T) ≡ refused n → Determined bs budget F T (answer_word (refusal n)) F T
  refused_so n e = determined (record { answer = refusal n; forms = F; trace = T }) ((kept bs budget F T).0 n e) (answer_word (refusal n)) refl

  pub no_problem : (n : ℕ) → read bs ≡ refused n → Determined bs budget F T (answer_word (refusal n)) F T
  no_problem n e = refused_so n ((asks bs budget (length T)).0 n e)

  module _ (prob : Problem) (r : read bs ≡ parsed prob) where
    pub over_budget : most_steps < budget → Determined bs budget F T (answer_word (refusal 12)) F T
    over_budget l = refused_so 12 (((asks bs budget (length T)).1 prob r).0 l)

    pub short_trace : budget ≤ most_steps → length T < 4 * budget → Determined bs budget F T (answer_word (refusal 13)) F T
    short_trace l h = refused_so 13 (((asks bs budget (length T)).1 prob r).1 l h)

    -- ---- a run

    module _ (few : budget ≤ most_steps) (room : 4 * budget ≤ length T) (bytes : List ℕ) (same : bytes ≡ bs) (c : Counts) (end : End) (G U : List ℕ) (runs : Runs bytes budget F T (state c end G U)) where
      accepted : asked bs budget (length T) ≡ parsed prob
      accepted = ((asks bs budget (length T)).1 prob r).2 few room

      called : call bs budget F T ≡ record { answer = ended (verdict_of end c.forms) c.steps c.forms; forms = G; trace = U }
      unfolding call
      called =
          let ran : state c end G U ≡ state_left (run prob budget (length F)) F T = runs prob (ap read same ∙ r) in
          rw (accepted, ap (λ (s : State). s.counts) ran, ap (λ (s : State). s.end) ran, ap (λ (s : State). s.forms) ran, ap (λ (s : State). s.trace) ran) refl

      pub run_bounds : (c.steps ≤ most_steps) × (c.forms ≤ 650001)
      run_bounds =
          let e = ap (λ (x : Outcome). x.answer) called in
          (omega (arith, steps_few bs budget F T prob accepted _ _ _ e), forms_fit bs budget F T prob accepted _ _ _ e)

      pub run_ended : (w : ℕ) → w ≡ answer_word (ended (verdict_of end c.forms) c.steps c.forms) → Determined bs budget F T w G U
      run_ended w q = determined (record { answer = ended (verdict_of end c.forms) c.steps c.forms; forms = G; trace = U }) called w q
