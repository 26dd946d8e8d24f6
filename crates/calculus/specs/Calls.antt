-- The two calls: what is handed in, what is answered, and the lent buffers as they are left.
use Rattle.std.proofs.Math.Option.{Option, none, some}
use Rattle.std.specs.Prelude.{List, ◌++◌, ℕ, zero, suc, ◌+◌, ◌*◌, length, drop, leb, pos}
use Rattle.calculus.specs.Limits.{most_steps}
use Rattle.calculus.specs.Problem.{Problem, values}
use Rattle.calculus.specs.Reading.{Parsed, parsed, refused, ◌>>=◌, ask, read}
use Rattle.calculus.specs.Check.{read_assignment, assignment_of, lowest}
use Rattle.calculus.specs.Run.{Tally, run}
use Rattle.calculus.specs.Run as R

-- ---- the run

pub data Verdict : Type 0 where
  FORMS FALSE SPENT NOROOM : Verdict

pub data Answer : Type 0 where
  refusal : ℕ → Answer
  ended : Verdict → (steps forms : ℕ) → Answer

-- with the form buffer and the trace buffer as the call leaves them
pub record Outcome : Type 0 where
  pub answer : Answer
  pub forms : List ℕ
  pub trace : List ℕ

-- when no branch is left FORMS, or FALSE if there are none
abbrev pub verdict_of : R.End → ℕ → Verdict
verdict_of R.DONE zero = FALSE
verdict_of R.DONE (suc n) = FORMS
verdict_of R.SPENT n = SPENT
verdict_of R.NOROOM n = NOROOM

-- written over the beginning of a buffer: later bytes stay unchanged
abbrev pub over : List ℕ → List ℕ → List ℕ
over written buffer = written ++ drop (length written) buffer

-- questions 1 to 13, of the problem's bytes, the budget and the length of the trace buffer
unfoldable pub asked : List ℕ → ℕ → ℕ → Parsed Problem
asked bytes budget room = do
  prob ← read bytes
  _ ← ask 12 (leb budget most_steps)
  _ ← ask 13 (leb (4 * budget) room)
  parsed prob

abbrev pub outcome_left : List ℕ → List ℕ → Tally → Outcome
outcome_left forms trace s = record { answer = ended (verdict_of s.end s.forms) s.steps s.forms; forms = over s.records forms; trace = over s.trace trace }

-- a refused call writes to no buffer
abbrev pub answered : ℕ → List ℕ → List ℕ → Parsed Problem → Outcome
answered budget forms trace (refused n) = record { answer = refusal n; forms = forms; trace = trace }
answered budget forms trace (parsed prob) = outcome_left forms trace (run prob budget (length forms))

unfoldable pub call : List ℕ → ℕ → List ℕ → List ℕ → Outcome
call bytes budget forms trace = answered budget forms trace (asked bytes budget (length trace))

-- ---- the assignment check

pub data Checked : Type 0 where
  declined : ℕ → Checked
  HOLDS : Checked
  FAILS : ℕ → Checked

abbrev pub checked_by : Parsed (Option ℕ) → Checked
checked_by (refused n) = declined n
checked_by (parsed none) = HOLDS
checked_by (parsed (some i)) = FAILS i

unfoldable pub check : List ℕ → List ℕ → Checked
check bytes assignment = checked_by (do
  prob ← read bytes
  g ← read_assignment prob assignment
  parsed (lowest (values prob (assignment_of g) (λ _. pos 0)) 0 prob.constraints))

-- ---- the answer word: bits 0 to 7 the verdict, 8 to 15 the refusal number or the failing constraint, 16 to 31 the steps, 32 to 63 the solved forms

abbrev pub pack : (verdict number steps forms : ℕ) → ℕ
pack verdict number steps forms = verdict + 256 * number + 65536 * steps + 4294967296 * forms

-- the number of each case: 0 REFUSED, 1 FORMS, 2 FALSE, 3 SPENT, 4 NO ROOM, 5 HOLDS, 6 FAILS
abbrev pub verdict_number : Verdict → ℕ
verdict_number FORMS = 1
verdict_number FALSE = 2
verdict_number SPENT = 3
verdict_number NOROOM = 4

abbrev pub answer_number : Answer → ℕ
answer_number (refusal n) = 0
answer_number (ended v steps forms) = verdict_number v

abbrev pub checked_number : Checked → ℕ
checked_number (declined n) = 0
checked_number HOLDS = 5
checked_number (FAILS i) = 6

unfoldable pub answer_word : Answer → ℕ
answer_word (refusal n) = pack (answer_number (refusal n)) n 0 0
answer_word (ended v steps forms) = pack (answer_number (ended v steps forms)) 0 steps forms

unfoldable pub check_word : Checked → ℕ
check_word (declined n) = pack (checked_number (declined n)) n 0 0
check_word HOLDS = pack (checked_number HOLDS) 0 0 0
check_word (FAILS i) = pack (checked_number (FAILS i)) i 0 0
