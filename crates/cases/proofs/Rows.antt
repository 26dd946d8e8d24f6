-- A row of a table of examples: what is handed in and what is expected of it, and what the definitions give.
use mathlib.Core.List.{List, [], ◌∷◌, ◌++◌}
use Prim.Native.Nat.{ℕ, zero, suc, ◌%◌, ◌/◌}
use lib.ListN.{replicate}
use Rattle.calculus.specs.Encoding.{Handed}
use Rattle.calculus.specs.Reading.{Parsed, parsed, ◌>>=◌, ask, byte, bytes, read_constraints, read_sets, read_variables, read_constants, read}
use Rattle.calculus.specs.Search.{next}
use Rattle.calculus.specs.Run
use Rattle.calculus.specs.Branch.{start, assert, root_at, inside, outside, add_inside, add_outside, merge, torn}
use Rattle.calculus.specs.Forms
use Rattle.calculus.specs.Check.{count, numbers, read_assignment}
use Rattle.calculus.specs.Calls
use Rattle.calculus.specs.Calls.{Answer, Outcome, over, asked, call, Checked}

pub data Row : Type 0 where
  -- of a run: the problem's bytes, the budget, the lengths of the form buffer and of the trace buffer; then the answer, the records and the trace
  run : (problem : List ℕ) (budget formLength traceLength : ℕ) → Answer → (records trace : List ℕ) → Row
  -- of an assignment check: the problem's bytes and the assignment's; then the answer
  check : (problem assignment : List ℕ) → Checked → Row
  -- of a model: the problem's bytes and the record of a solved form; then the values of the variables and the members of the sets
  model : (problem form : List ℕ) → Handed → Row

pub data Result : Type 0 where
  of_run : Outcome → Result
  of_check : Checked → Result
  of_model : Parsed Handed → Result

-- a buffer of n bytes, before the call
abbrev pub lent : ℕ → List ℕ
lent n = replicate n 238

-- what is expected: of a run, that the records and the trace stand over the beginning of the buffers and later bytes are as they were
abbrev pub expected : Row → Result
expected (run problem budget formLength traceLength answer records trace) = of_run (record { answer = answer; forms = over records (lent formLength); trace = over trace (lent traceLength) })
expected (check problem assignment answer) = of_check answer
expected (model problem form values) = of_model (parsed values)

-- what the definitions give. Where this unfolds, all that they compute with does
unfoldable pub given : Row → Result
unfolding start assert next Run.run root_at inside outside add_inside add_outside merge torn ◌>>=◌ ask byte bytes read_constraints read_sets read_variables read_constants read Forms.root_in Forms.inside_in asked call count numbers read_assignment Calls.check
given (run problem budget formLength traceLength answer records trace) = of_run (call problem budget (lent formLength) (lent traceLength))
given (check problem assignment answer) = of_check (Calls.check problem assignment)
given (model problem form values) = of_model (do
  prob ← read problem
  parsed (Forms.handed_model prob form))

-- ---- long lists of bytes

-- n two-byte numbers from a upward
abbrev pub words_from : ℕ → ℕ → List ℕ
words_from a zero = []
words_from a (suc n) = a % 256 ∷ a / 256 ∷ words_from (suc a) n

-- n times the same bytes
abbrev pub repeated : ℕ → List ℕ → List ℕ
repeated zero bs = []
repeated (suc n) bs = bs ++ repeated n bs
