-- The answer word: how many solved forms a run can list, and that every part of the word can be read back.
use mathlib.Core.Path.{◌≡◌, refl, sym, ◌∙◌}
use mathlib.Core.Bool.{true, false, false≢true}
use mathlib.Core.Option.{Option, none, some}
use mathlib.Core.List.{List, [], ◌∷◌, ◌++◌, map}
use Prim.Native.Nat.{ℕ, suc, ◌+◌, ◌*◌, ◌<◌, ◌≤◌}
use native.Mathlib.Omega.{arith}
use native.Mathlib.Nat.{mul-le-mul, mul-suc}
use lib.ListN.{length, length-append, length-map}
use lib.IntN.{pos}
use Rattle.calculus.specs.Limits.{most_steps}
use Rattle.calculus.specs.Lists.{Each}
use Rattle.calculus.specs.Branch.{Branch, start}
use Rattle.calculus.specs.Problem.{Problem, term_count, set_count, constant_terms, values, Valid}
use Rattle.calculus.specs.Reading.{Parsed, parsed, refused, ◌>>=◌, read}
use Rattle.calculus.specs.Check.{read_assignment, assignment_of, lowest}
use Rattle.calculus.specs.Encoding.{Handed}
use Rattle.calculus.specs.Calls.{Verdict, FORMS, FALSE, SPENT, NOROOM, Answer, refusal, ended, asked, call, pack, verdict_number, answer_word, Checked, declined, HOLDS, FAILS, checked_by, check, check_word}
use Rattle.calculus.specs.Order.{StepOf, Progress, Works, all_worked, none_listed, form_listed, no_room, spending, closing, stepping}
use Rattle.calculus.specs.Demands.{Unpacks, Answers}
use Rattle.calculus.proofs.Bools.{each_app, each_imp, each_map}
use Rattle.calculus.proofs.Asserting.{WellFormed}
use Rattle.calculus.proofs.Measure.{measure}
use Rattle.calculus.proofs.Stepping.{step_fit}
use Rattle.calculus.proofs.Start.{start_fit}
use Rattle.calculus.proofs.ConstraintLaws.{constraints_within}
use Rattle.calculus.proofs.FirstPlace.{first_place}
use Rattle.calculus.proofs.StepBounds.{step_bounds}
use Rattle.calculus.proofs.ReadValid.{read_valid}
use Rattle.calculus.proofs.CallLaws.{asked_parsed, kept, follows}
use Rattle.calculus.proofs.Refuses.{refuses}
use Rattle.calculus.proofs.Parsing.{parsed_refusals, bind_refusals, ask_refusals}
use Rattle.calculus.proofs.ReadAssignment.{assignment_refusals}
use Rattle.calculus.proofs.Checking.{checks}

-- ---- a step leaves at most two more children than there are terms, so forms grow no faster

module _ (prob : Problem) (acc : Valid prob) (budget room : ℕ) where
  abbrev N : ℕ
  N = term_count prob

  abbrev Sound : List (ℕ × Branch) → Type 0
  Sound left = Each (λ (x : ℕ × Branch). WellFormed N (constant_terms prob) x.1) left

  next_sound : (d : ℕ) (b : Branch) → WellFormed N (constant_terms prob) b → (r : List ℕ) (cs : List Branch) → StepOf prob b r cs → (left : List (ℕ × Branch)) → Sound left → Sound (map (λ c. (d, c)) cs ++ left)
  next_sound d b F r cs q left g =
      each_app (λ (x : ℕ × Branch). WellFormed N (constant_terms prob) x.1) (map (λ c. (d, c)) cs) left
      (each_map (λ (x : ℕ × Branch). WellFormed N (constant_terms prob) x.1) (λ (c : Branch). (d, c)) cs
      (each_imp (λ c. WellFormed N (constant_terms prob) c × (measure N (set_count prob) c < measure N (set_count prob) b)) (WellFormed N (constant_terms prob)) cs (λ c z. z.0) (step_fit N (constant_terms prob) (set_count prob) prob.constraints (constraints_within prob acc) b F r cs (((first_place prob b).1 r cs).1 q)))) g

  few_more : (left : List (ℕ × Branch)) → Sound left → (s e : Progress) (v : Verdict) (ps : List ℕ) → Works prob budget room left s v e ps
      → e.forms + suc N * s.steps ≤ (s.forms + length left) + suc N * e.steps
  few_more left g s e v ps (all_worked h) = omega arith
  few_more left g s e v ps (none_listed h) = omega arith
  few_more left g s e v ps (form_listed {left = rest} {ps = qs} _ _ _ _ w) = omega (arith, few_more rest g.1 _ e v qs w)
  few_more left g s e v ps (no_room _ _ _ _) = omega arith
  few_more left g s e v ps (spending _ _ _) = omega arith
  few_more left g s e v ps (closing {left = rest} {ps = qs} _ _ _ w) = omega (arith, few_more rest g.1 _ e v qs w, mul-suc (suc N) s.steps)
  few_more left g s e v ps (stepping {d = d} {b = b} {c = c} {cs = cs} {left = rest} {r = r} _ q _ w) =
      let small = (step_bounds N (constant_terms prob) (set_count prob) b g.0 prob.constraints (constraints_within prob acc) r (c ∷ cs) (((first_place prob b).1 r (c ∷ cs)).1 q)).7 in
      omega (
        arith,
        few_more (map (λ x. (suc d, x)) (c ∷ cs) ++ rest) (next_sound (suc d) b g.0 r (c ∷ cs) q rest g.1) _ e v ps w,
        mul-suc (suc N) s.steps,
        length-append (map (λ x. (suc d, x)) (c ∷ cs)) rest,
        length-map {B = ℕ × Branch} (c ∷ cs) (λ (x : Branch). (suc d, x)),
        small,
      )

-- a run of n steps lists at most 1 + (terms + 1) × n forms
pub forms_few : (bytes : List ℕ) (budget : ℕ) (forms trace : List ℕ) (prob : Problem) → asked bytes budget (length trace) ≡ parsed prob → (v : Verdict) (n c : ℕ) → (call bytes budget forms trace).answer ≡ ended v n c → c ≤ 1 + suc (term_count prob) * n
forms_few bytes budget forms trace prob q v n c a =
    let acc = read_valid bytes prob (asked_parsed bytes budget (length trace) prob q).0 in
    let w = follows bytes budget forms trace prob q v n c a in
    omega (arith, few_more prob acc budget (length forms) ((0, start (term_count prob)) ∷ []) (start_fit (term_count prob) (constant_terms prob), tt) _ _ v w.2 w.3)

-- steps are at most the budget, and the budget at most 10,000; so the forms fit 32 bits
module _ (bytes : List ℕ) (budget : ℕ) (forms trace : List ℕ) (prob : Problem) (q : asked bytes budget (length trace) ≡ parsed prob) (v : Verdict) (n c : ℕ) (e : (call bytes budget forms trace).answer ≡ ended v n c) where
  pub steps_few : (n ≤ budget) × (budget ≤ most_steps)
  steps_few =
      let k = (kept bytes budget forms trace).1 prob q in
      let same : ended k.0 k.1 k.2 ≡ ended v n c = sym k.3 ∙ e in
      let z : k.1 ≡ n = cc in
      (omega (arith, k.4), (asked_parsed bytes budget (length trace) prob q).1)

  pub forms_fit : c ≤ 650001
  forms_fit =
      let terms : suc (term_count prob) ≤ 65 = omega (arith, (read_valid bytes prob (asked_parsed bytes budget (length trace) prob q).0).few_terms) in
      let steps : n ≤ most_steps = omega (arith, steps_few) in
      omega (arith, forms_few bytes budget forms trace prob q v n c e, mul-le-mul terms steps)

-- ---- the word

pub unpacks : (verdict number steps forms : ℕ) → verdict < 256 → number < 256 → steps < 65536 → forms < 4294967296 → Unpacks (pack verdict number steps forms) verdict number steps forms
unpacks v n s f a b c d = record {
  small = omega arith;
  verdict_is = omega arith;
  number_is = omega arith;
  steps_are = omega arith;
  forms_are = omega arith;
}

verdict_low : (v : Verdict) → verdict_number v < 256
verdict_low FORMS = omega arith
verdict_low FALSE = omega arith
verdict_low SPENT = omega arith
verdict_low NOROOM = omega arith

-- ---- the run's word

asked_numbers : (bytes : List ℕ) (budget room n : ℕ) → asked bytes budget room ≡ refused n → n ≤ 13
unfolding asked
asked_numbers bytes budget room = bind_refusals (λ n. n ≤ 13) (read bytes) _ (λ n q. omega (arith, (refuses bytes).1 n q))
    (λ prob. ask_refusals (λ n. n ≤ 13) 12 _ _ (omega arith) (ask_refusals (λ n. n ≤ 13) 13 _ _ (omega arith) (parsed_refusals (λ n. n ≤ 13) prob)))

-- what a call was asked, from its answer
data Asked (bytes : List ℕ) (budget : ℕ) (trace : List ℕ) : Answer → Type 0 where
  no : (n : ℕ) → asked bytes budget (length trace) ≡ refused n → Asked bytes budget trace (refusal n)
  yes : (prob : Problem) (v : Verdict) (n c : ℕ) → asked bytes budget (length trace) ≡ parsed prob → Asked bytes budget trace (ended v n c)

asked_of : (bytes : List ℕ) (budget : ℕ) (forms trace : List ℕ) → Asked bytes budget trace (call bytes budget forms trace).answer
unfolding call
asked_of bytes budget forms trace = go (asked bytes budget (length trace)) refl
  where
    go : (x : Parsed Problem) → asked bytes budget (length trace) ≡ x → Asked bytes budget trace (call bytes budget forms trace).answer
    go (refused n) q = rw q (no n q)
    go (parsed prob) q = rw q (yes prob _ _ _ q)

module _ (bytes : List ℕ) (budget : ℕ) (forms trace : List ℕ) where
  refusal_word : (n : ℕ) → (call bytes budget forms trace).answer ≡ refusal n → Unpacks (answer_word (call bytes budget forms trace).answer) 0 n 0 0
  unfolding answer_word
  refusal_word n e = rw e (unpacks 0 n 0 0 (omega arith) (go (call bytes budget forms trace).answer (asked_of bytes budget forms trace) e) (omega arith) (omega arith))
    where
      go : (a : Answer) → Asked bytes budget trace a → a ≡ refusal n → n < 256
      go a (no m q) e = let z : m ≡ n = cc in omega (arith, asked_numbers bytes budget (length trace) m q)
      go a (yes prob v m c q) e = let w : false ≡ true = cc in absurd (false≢true w)

  ended_word : (v : Verdict) (n c : ℕ) → (call bytes budget forms trace).answer ≡ ended v n c → Unpacks (answer_word (call bytes budget forms trace).answer) (verdict_number v) 0 n c
  unfolding answer_word
  ended_word v n c e = let l = go (call bytes budget forms trace).answer (asked_of bytes budget forms trace) e in rw e (unpacks (verdict_number v) 0 n c (verdict_low v) (omega arith) (omega (arith, l.0)) (omega (arith, l.1)))
    where
      go : (a : Answer) → Asked bytes budget trace a → a ≡ ended v n c → (n ≤ most_steps) × (c ≤ 650001)
      go a (no m q) z = let w : false ≡ true = cc in absurd (false≢true w)
      go a (yes prob u m d q) z = (omega (arith, steps_few bytes budget forms trace prob q v n c e), forms_fit bytes budget forms trace prob q v n c e)

-- ---- the check's word

-- what a check was asked, from its answer
data Tried (bytes assignment : List ℕ) : Checked → Type 0 where
  no_problem : (n : ℕ) → read bytes ≡ refused n → Tried bytes assignment (declined n)
  no_assignment : (prob : Problem) (n : ℕ) → read_assignment prob assignment ≡ refused n → Tried bytes assignment (declined n)
  tested : (prob : Problem) (g : Handed) (o : Option ℕ) → read bytes ≡ parsed prob → read_assignment prob assignment ≡ parsed g → Tried bytes assignment (checked_by (parsed o))

tried : (bytes assignment : List ℕ) → Tried bytes assignment (check bytes assignment)
unfolding check ◌>>=◌
tried bytes assignment = go (read bytes) refl
  where
    go : (x : Parsed Problem) → read bytes ≡ x → Tried bytes assignment (check bytes assignment)
    go (refused n) q = rw q (no_problem n q)
    go (parsed prob) q = at (read_assignment prob assignment) refl
      where
        at : (y : Parsed Handed) → read_assignment prob assignment ≡ y → Tried bytes assignment (check bytes assignment)
        at (refused n) r = rw (q, r) (no_assignment prob n r)
        at (parsed g) r = rw (q, r) (tested prob g (lowest (values prob (assignment_of g) (λ _. pos 0)) 0 prob.constraints) q r)

module _ (bytes assignment : List ℕ) where
  declined_low : (n : ℕ) (c : Checked) → Tried bytes assignment c → c ≡ declined n → n < 256
  declined_low n c (no_problem m q) e = let z : m ≡ n = cc in omega (arith, (refuses bytes).1 m q)
  declined_low n c (no_assignment prob m q) e = let z : m ≡ n = cc in omega (arith, assignment_refusals prob assignment m q)
  declined_low n c (tested prob g none q r) e = let w : false ≡ true = cc in absurd (false≢true w)
  declined_low n c (tested prob g (some i) q r) e = let w : false ≡ true = cc in absurd (false≢true w)

  failing_low : (i : ℕ) → check bytes assignment ≡ FAILS i → (c : Checked) → Tried bytes assignment c → c ≡ FAILS i → i < 256
  failing_low i h c (no_problem m q) e = let w : false ≡ true = cc in absurd (false≢true w)
  failing_low i h c (no_assignment prob m q) e = let w : false ≡ true = cc in absurd (false≢true w)
  failing_low i h c (tested prob g o q r) e = omega (arith, (((((checks bytes assignment).1 prob q).1 g r).1 i).0 h).0, (read_valid bytes prob q).few_constraints)

  check_word_parts : ((n : ℕ) → check bytes assignment ≡ declined n → Unpacks (check_word (check bytes assignment)) 0 n 0 0)
      × (check bytes assignment ≡ HOLDS → Unpacks (check_word (check bytes assignment)) 5 0 0 0)
      × ((i : ℕ) → check bytes assignment ≡ FAILS i → Unpacks (check_word (check bytes assignment)) 6 i 0 0)
  unfolding check_word
  check_word_parts = (
    (λ n e. rw e (unpacks 0 n 0 0 (omega arith) (declined_low n (check bytes assignment) (tried bytes assignment) e) (omega arith) (omega arith))),
    (λ e. rw e (unpacks 5 0 0 0 (omega arith) (omega arith) (omega arith) (omega arith))),
    (λ i e. rw e (unpacks 6 i 0 0 (omega arith) (failing_low i e (check bytes assignment) (tried bytes assignment) e) (omega arith) (omega arith))),
  )

pub answers : Answers
answers bytes = ((λ budget forms trace. (refusal_word bytes budget forms trace, ended_word bytes budget forms trace)), check_word_parts bytes)
