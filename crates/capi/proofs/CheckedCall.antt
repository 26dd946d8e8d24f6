-- An assignment check whose word is the definition's meets the contract.
use mathlib.Core.Path.{◌≡◌, refl, sym, ap, ◌∙◌}
use mathlib.Core.Logic.{◌⊎◌, inl, inr}
use mathlib.Core.List.{List}
use Prim.Native.Nat.{ℕ, ◌<◌}
use native.Mathlib.Omega.{arith}
use lib.ListN.{length}
use Rattle.calculus.specs.Problem.{Problem, Satisfies}
use Rattle.calculus.specs.Reading.{Parsed, parsed, refused, read}
use Rattle.calculus.specs.Encoding.{Bytes, Handed}
use Rattle.calculus.specs.Check.{read_assignment, assignment_of}
use Rattle.calculus.specs.Calls.{Checked, declined, HOLDS, FAILS, check, check_word}
use Rattle.calculus.proofs.AnswerLaws.{answers}
use Rattle.calculus.proofs.Checking.{checks}
use Rattle.calculus.proofs.ReadsWritten.{reads}
use Rattle.calculus.proofs.ReadAssignment.{reads_assignment}
use Rattle.calculus.proofs.CallQuestions.{refusals}
use Rattle.capi.specs.Contract.{verdict_in, number_in, steps_in, forms_in, TrueAt, Given, CheckContract}

module _ (bytes assignment : List ℕ) (is : Bytes bytes) (are : Bytes assignment) where
  abbrev word : ℕ
  word = check_word (check bytes assignment)

  declined_word : (n : ℕ) → check bytes assignment ≡ declined n → (verdict_in word ≡ 0) × (number_in word ≡ n)
  declined_word n e = let u = ((answers bytes).1 assignment).0 n e in (u.verdict_is, u.number_is)

  holds_word : check bytes assignment ≡ HOLDS → verdict_in word ≡ 5
  holds_word e = (((answers bytes).1 assignment).1 e).verdict_is

  fails_word : (i : ℕ) → check bytes assignment ≡ FAILS i → (verdict_in word ≡ 6) × (number_in word ≡ i)
  fails_word i e = let u = ((answers bytes).1 assignment).2 i e in (u.verdict_is, u.number_is)

  -- a check that is not declined has read a problem and an assignment for it
  pub record Asked : Type 0 where
    pub prob : Problem
    pub given : Handed
    pub reads : read bytes ≡ parsed prob
    pub hands : read_assignment prob assignment ≡ parsed given

  asked : ((n : ℕ) → ¬ (check bytes assignment ≡ declined n)) → Asked
  asked h = first (read bytes) refl
    where
      second : (prob : Problem) → read bytes ≡ parsed prob → (m : Parsed Handed) → read_assignment prob assignment ≡ m → Asked
      second prob p (parsed g) q = record { prob = prob; given = g; reads = p; hands = q }
      second prob p (refused n) q = absurd (h n (((checks bytes assignment).1 prob p).0 n q))

      first : (m : Parsed Problem) → read bytes ≡ m → Asked
      first (parsed prob) p = second prob p (read_assignment prob assignment) refl
      first (refused n) p = absurd (h n ((checks bytes assignment).0 n p))

  -- what is counted
  counts : (c : Checked) → check bytes assignment ≡ c → (steps_in word ≡ 0) × (forms_in word ≡ 0)
  counts (declined n) e = let u = ((answers bytes).1 assignment).0 n e in (u.steps_are, u.forms_are)
  counts HOLDS e = let u = ((answers bytes).1 assignment).1 e in (u.steps_are, u.forms_are)
  counts (FAILS i) e = let u = ((answers bytes).1 assignment).2 i e in (u.steps_are, u.forms_are)

  pub contract : CheckContract bytes assignment word
  contract = record {
    bytewise = (is, are);
    refusals = λ n. ((λ q. ((refusals bytes is).2 assignment are n).0 (refused_at n q (check bytes assignment) refl)), λ x. declined_word n (((refusals bytes is).2 assignment are n).1 x));
    holds = ((λ q. says q (check bytes assignment) refl), said);
    fails = λ i. ((λ q. named i q (check bytes assignment) refl), naming i);
    nothing_else = (one_of (check bytes assignment) refl, (λ q. no_number q (check bytes assignment) refl), (counts (check bytes assignment) refl).0, (counts (check bytes assignment) refl).1);
  }
    where
      Satisfied : Type 0
      Satisfied = (prob : Problem) × (g : Handed) × Given bytes assignment prob g × Satisfies prob (assignment_of g)

      Named : ℕ → Type 0
      Named i = (prob : Problem) × (g : Handed) × Given bytes assignment prob g × (i < length prob.constraints) × ¬ TrueAt prob g i × ((j : ℕ) → j < i → TrueAt prob g j)

      refused_at : (n : ℕ) → (verdict_in word ≡ 0) × (number_in word ≡ n) → (c : Checked) → check bytes assignment ≡ c → check bytes assignment ≡ declined n
      refused_at n q (declined m) e = e ∙ ap declined (sym (declined_word m e).1 ∙ q.1)
      refused_at n q HOLDS e = absurd (omega (arith, q.0, holds_word e))
      refused_at n q (FAILS i) e = absurd (omega (arith, q.0, (fails_word i e).0))

      one_of : (c : Checked) → check bytes assignment ≡ c → (verdict_in word ≡ 0) ⊎ ((verdict_in word ≡ 5) ⊎ (verdict_in word ≡ 6))
      one_of (declined n) e = inl (declined_word n e).0
      one_of HOLDS e = inr (inl (holds_word e))
      one_of (FAILS i) e = inr (inr (fails_word i e).0)

      no_number : verdict_in word ≡ 5 → (c : Checked) → check bytes assignment ≡ c → number_in word ≡ 0
      no_number q (declined n) e = absurd (omega (arith, q, (declined_word n e).0))
      no_number q HOLDS e = (((answers bytes).1 assignment).1 e).number_is
      no_number q (FAILS i) e = absurd (omega (arith, q, (fails_word i e).0))

      given : (a : Asked) → Given bytes assignment a.prob a.given
      given a = record { written = (reads bytes is a.prob).0 a.reads; handed = ((reads_assignment a.prob assignment are).0 a.given).0 a.hands }

      -- and back
      back : (prob : Problem) (g : Handed) → Given bytes assignment prob g → (read bytes ≡ parsed prob) × (read_assignment prob assignment ≡ parsed g)
      back prob g h = ((reads bytes is prob).1 h.written, ((reads_assignment prob assignment are).0 g).1 h.handed)

      says : verdict_in word ≡ 5 → (c : Checked) → check bytes assignment ≡ c → Satisfied
      says q (declined n) e = absurd (omega (arith, q, (declined_word n e).0))
      says q HOLDS e =
          let a = asked (λ n f. let x : HOLDS ≡ declined n = sym e ∙ f in let y : ◌≡◌ {A = ℕ} 0 1 = cc in omega arith) in
          (a.prob, a.given, given a, (((checks bytes assignment).1 a.prob a.reads).1 a.given a.hands).0.0 e)
      says q (FAILS i) e = absurd (omega (arith, q, (fails_word i e).0))

      said : Satisfied → verdict_in word ≡ 5
      said (prob, g, h, s) = let r = back prob g h in holds_word ((((checks bytes assignment).1 prob r.0).1 g r.1).0.1 s)

      named : (i : ℕ) → (verdict_in word ≡ 6) × (number_in word ≡ i) → (c : Checked) → check bytes assignment ≡ c → Named i
      named i q (declined n) e = absurd (omega (arith, q.0, (declined_word n e).0))
      named i q HOLDS e = absurd (omega (arith, q.0, holds_word e))
      named i q (FAILS k) e =
          let a = asked (λ n f. let x : FAILS k ≡ declined n = sym e ∙ f in let y : ◌≡◌ {A = ℕ} 0 1 = cc in omega arith) in
          let z : k ≡ i = sym (fails_word k e).1 ∙ q.1 in
          let c = ((((checks bytes assignment).1 a.prob a.reads).1 a.given a.hands).1 i).0 (e ∙ ap FAILS z) in
          (a.prob, a.given, given a, c.0, c.1, c.2)

      naming : (i : ℕ) → Named i → (verdict_in word ≡ 6) × (number_in word ≡ i)
      naming i (prob, g, h, l, n, t) = let r = back prob g h in fails_word i (((((checks bytes assignment).1 prob r.0).1 g r.1).1 i).1 (l, n, t))
