-- A call is refused with the number of the first of its questions that is answered "no".
use mathlib.Core.Path.{◌≡◌, refl, sym, ◌∙◌, ap, subst}
use mathlib.Core.Bool.{true, false, false≢true}
use mathlib.Core.Option.{Option, none, some}
use mathlib.Core.List.{List}
use Prim.Native.Nat.{ℕ, ◌*◌, ◌<◌}
use native.Mathlib.Omega.{arith}
use native.Mathlib.Decide.{dec_lt}
use lib.IntN.{pos}
use Rattle.calculus.specs.Limits.{most_steps}
use Rattle.calculus.specs.Problem.{Problem, values}
use Rattle.calculus.specs.Encoding.{Bytes, Handed}
use Rattle.calculus.specs.Reading.{Parsed, parsed, refused, ◌>>=◌, read}
use Rattle.calculus.specs.Check.{read_assignment, assignment_of, lowest}
use Rattle.calculus.specs.Questions.{of_problem, FirstNoOfRun, over_budget, short_trace, FirstNoOfCheck, no_assignment}
use Rattle.calculus.specs.Calls.{asked, declined, checked_by, check}
use Rattle.calculus.specs.Demands.{Refusals}
use Rattle.calculus.proofs.ReadsWritten.{reads}
use Rattle.calculus.proofs.Questions.{questions}
use Rattle.calculus.proofs.CallLaws.{asks, asked_parsed}
use Rattle.calculus.proofs.ReadAssignment.{reads_assignment}
use Rattle.calculus.proofs.Checking.{checks}

-- what is refused with two numbers has one; what is parsed is not refused
one_number : {A : Type 0} {m n : ℕ} → ◌≡◌ {A = Parsed A} (refused m) (refused n) → m ≡ n
one_number e = cc

not_refused : {A X : Type 0} {a : A} {n : ℕ} → ◌≡◌ {A = Parsed A} (parsed a) (refused n) → X
not_refused e = let w : false ≡ true = cc in absurd (false≢true w)

module _ (bytes : List ℕ) (is : Bytes bytes) where
  module _ (budget room : ℕ) where
    run_says : (n : ℕ) → asked bytes budget room ≡ refused n → FirstNoOfRun bytes budget room n
    run_says n e = go (read bytes) refl
      where
        at : (m : ℕ) → asked bytes budget room ≡ refused m → FirstNoOfRun bytes budget room m → FirstNoOfRun bytes budget room n
        at m q x = subst (FirstNoOfRun bytes budget room) (one_number (sym q ∙ e)) x

        limits : (prob : Problem) → read bytes ≡ parsed prob → Dec (most_steps < budget) → Dec (room < 4 * budget) → FirstNoOfRun bytes budget room n
        limits prob q (yes l) d = at 12 (((asks bytes budget room).1 prob q).0 l) (over_budget prob ((reads bytes is prob).0 q) l)
        limits prob q (no l) (yes k) = at 13 (((asks bytes budget room).1 prob q).1 (omega arith) k) (short_trace prob ((reads bytes is prob).0 q) (omega arith) k)
        limits prob q (no l) (no k) = not_refused (sym (((asks bytes budget room).1 prob q).2 (omega arith) (omega arith)) ∙ e)

        go : (x : Parsed Problem) → read bytes ≡ x → FirstNoOfRun bytes budget room n
        go (refused m) q = at m ((asks bytes budget room).0 m q) (of_problem ((questions bytes is m).0 q))
        go (parsed prob) q = limits prob q (dec_lt most_steps budget) (dec_lt room (4 * budget))

    run_does : (n : ℕ) → FirstNoOfRun bytes budget room n → asked bytes budget room ≡ refused n
    run_does n (of_problem f) = (asks bytes budget room).0 n ((questions bytes is n).1 f)
    run_does n (over_budget prob w l) = ((asks bytes budget room).1 prob ((reads bytes is prob).1 w)).0 l
    run_does n (short_trace prob w l k) = ((asks bytes budget room).1 prob ((reads bytes is prob).1 w)).1 l k

  module _ (assignment : List ℕ) (are : Bytes assignment) where
    -- with a problem and an assignment the check says HOLDS or FAILS
    tested : (prob : Problem) (g : Handed) → read bytes ≡ parsed prob → read_assignment prob assignment ≡ parsed g
        → check bytes assignment ≡ checked_by (parsed (lowest (values prob (assignment_of g) (λ _. pos 0)) 0 prob.constraints))
    unfolding check ◌>>=◌
    tested prob g p q = rw (p, q) refl

    not_declined : (n : ℕ) (o : Option ℕ) → checked_by (parsed o) ≡ declined n → {X : Type 0} → X
    not_declined n none e = let w : false ≡ true = cc in absurd (false≢true w)
    not_declined n (some i) e = let w : false ≡ true = cc in absurd (false≢true w)

    check_says : (n : ℕ) → check bytes assignment ≡ declined n → FirstNoOfCheck bytes assignment n
    check_says n e = go (read bytes) refl
      where
        at : (m : ℕ) → check bytes assignment ≡ declined m → FirstNoOfCheck bytes assignment m → FirstNoOfCheck bytes assignment n
        at m q x = let y : declined m ≡ declined n = sym q ∙ e in let z : m ≡ n = cc in subst (FirstNoOfCheck bytes assignment) z x

        handed : (prob : Problem) → read bytes ≡ parsed prob → (x : Parsed Handed) → read_assignment prob assignment ≡ x → FirstNoOfCheck bytes assignment n
        handed prob p (parsed g) q = not_declined n (lowest (values prob (assignment_of g) (λ _. pos 0)) 0 prob.constraints) (sym (tested prob g p q) ∙ e)
        handed prob p (refused m) q =
            let A = reads_assignment prob assignment are in
            at 14 (((checks bytes assignment).1 prob p).0 14 (q ∙ ap refused (A.1 m q))) (no_assignment prob ((reads bytes is prob).0 p) (λ g w. not_refused (sym ((A.0 g).1 w) ∙ q)))

        go : (x : Parsed Problem) → read bytes ≡ x → FirstNoOfCheck bytes assignment n
        go (refused m) q = at m ((checks bytes assignment).0 m q) (of_problem ((questions bytes is m).0 q))
        go (parsed prob) p = handed prob p (read_assignment prob assignment) refl

    check_does : (n : ℕ) → FirstNoOfCheck bytes assignment n → check bytes assignment ≡ declined n
    check_does n (of_problem f) = (checks bytes assignment).0 n ((questions bytes is n).1 f)
    check_does n (no_assignment prob w h) = ((checks bytes assignment).1 prob p).0 14 (go (read_assignment prob assignment) refl)
      where
        p : read bytes ≡ parsed prob
        p = (reads bytes is prob).1 w

        go : (x : Parsed Handed) → read_assignment prob assignment ≡ x → read_assignment prob assignment ≡ refused 14
        go (parsed g) q = absurd (h g (((reads_assignment prob assignment are).0 g).0 q))
        go (refused m) q = q ∙ ap refused ((reads_assignment prob assignment are).1 m q)

pub refusals : Refusals
refusals bytes is = (
  (λ budget room n. (run_says bytes is budget room n, run_does bytes is budget room n)),
  (λ budget room prob. (
    (λ e. let a = asked_parsed bytes budget room prob e in ((reads bytes is prob).0 a.0, a.1, a.2)),
    (λ w. ((asks bytes budget room).1 prob ((reads bytes is prob).1 w.0)).2 w.1 w.2),
  )),
  (λ assignment are n. (check_says bytes is assignment are n, check_does bytes is assignment are n)),
)
