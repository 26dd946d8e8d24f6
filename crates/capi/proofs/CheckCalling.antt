-- What an assignment check answers, question by question.
use mathlib.Core.Path.{◌≡◌, refl, sym, ap, ◌∙◌}
use mathlib.Core.Option.{Option, some, none}
use mathlib.Core.List.{List}
use Prim.Native.Nat.{ℕ, ◌+◌, ◌*◌}
use native.Mathlib.Omega.{arith}
use Rattle.std.specs.Prelude as result
use Rattle.std.specs.Prelude.{Some}
use Rattle.calculus.specs.Problem.{Problem}
use Rattle.calculus.specs.Reading.{parsed, refused, read, ◌>>=◌}
use Rattle.calculus.specs.Encoding.{Bytes}
use Rattle.calculus.specs.Check.{read_assignment, lowest}
use Rattle.calculus.specs.Calls.{refusal, declined, checked_by, check, answer_word, check_word}
use Rattle.calculus.proofs.Checking.{checks}
use Rattle.problem.specs.declared.table.Table.{Table}
use Rattle.problem.specs.Table.{problem_table, TableOf, constraints_of}
use Rattle.problem.specs.declared.accepted.Problem as code
use Rattle.assignment.specs.declared.Assignment.{Assignment}
use Rattle.assignment.specs.Laid.{read_handed}
use Rattle.assignment.proofs.Layouts.{ReadInto}
use Rattle.checker.specs.declared.seen.Seen.{Seen}
use Rattle.checker.specs.Tested.{seen, failing}
use Rattle.checker.proofs.Agreeing.{lowest_seen}
use Rattle.capi.specs.Contract.{CheckContract}
use Rattle.capi.proofs.Calling.{ReadAs}
use Rattle.capi.proofs.CheckedCall.{contract}

module _ (bs hs : List ℕ) where
  -- what is determined meets the contract
  pub contracted : Bytes bs → Bytes hs → (w : ℕ) → w ≡ check_word (check bs hs) → CheckContract bs hs w
  contracted is are w e = rw e (contract bs hs is are)

  -- the word of a refusal is that of a run's
  declined_so : (n : ℕ) → check bs hs ≡ declined n → answer_word (refusal n) ≡ check_word (check bs hs)
  unfolding answer_word check_word
  declined_so n e = rw e refl

  pub no_problem : (n : ℕ) → read bs ≡ refused n → answer_word (refusal n) ≡ check_word (check bs hs)
  no_problem n e = declined_so n ((checks bs hs).0 n e)

  module _ (prob : Problem) (r : read bs ≡ parsed prob) (tab : Table) (shows : TableOf prob tab) where
    -- question 14 is that of this problem
    same_question : read_handed tab.variables tab.sets hs ≡ read_assignment prob hs
    unfolding read_handed read_assignment problem_table
    same_question = ap (λ (t : Table). read_handed t.variables t.sets hs) shows

    pub no_assignment : read_handed tab.variables tab.sets hs ≡ refused 14 → answer_word (refusal 14) ≡ check_word (check bs hs)
    no_assignment q = declined_so 14 (((checks bs hs).1 prob r).0 14 (sym same_question ∙ q))

-- what was seen is tested
module _ (bs hs : List ℕ) (p : code.Problem) (prob : Problem) (r : read bs ≡ parsed prob) (o : ReadAs bs prob p) (a : Assignment) (lay : ReadInto hs p.table.variables p.table.sets a) where
  abbrev saw : Seen
  saw = record { problem = p; handed = a; valued = omega (arith, lay.2.values_are.0, lay.2.many) }

  tested : (t : result.Option ℕ) → lowest (seen saw) 0 (constraints_of (read p.bytes.now)) ≡ failing t → check bs hs ≡ checked_by (parsed (failing t))
  unfolding check ◌>>=◌ constraints_of
  tested t e =
      let q : read p.bytes.now ≡ parsed prob = ap read o.0 ∙ r in
      let x = rw q at e in
      rw (r, sym (same_question bs hs prob r p.table o.1) ∙ lay.1) (ap (λ (y : Option ℕ). checked_by (parsed y)) (sym (lowest_seen saw prob q lay.0 lay.2) ∙ x))

  pub check_fails : (i : ℕ) → lowest (seen saw) 0 (constraints_of (read p.bytes.now)) ≡ some i → 6 + 256 * i ≡ check_word (check bs hs)
  unfolding check_word
  check_fails i e = rw (tested (Some i) e) (omega arith)

  pub check_holds : lowest (seen saw) 0 (constraints_of (read p.bytes.now)) ≡ none → 5 ≡ check_word (check bs hs)
  unfolding check_word
  check_holds e = rw (tested result.None e) refl
