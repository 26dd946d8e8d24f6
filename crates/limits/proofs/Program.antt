-- Printed by tests/print-cases from rows/Program.rows: do not edit.
-- The listing program's limits: a budget of 1,000 steps and a form buffer of 32,768 bytes. Each row is a theorem of its own, as the checker bounds the work of one. The expected answers are those of the solver under tests/.
use mathlib.Core.Path.{◌≡◌, refl}
use mathlib.Core.List.{[], ◌∷◌}
use Rattle.calculus.specs.Reading.{◌>>=◌, ask, byte, bytes, read_constraints, read_sets, read_variables, read_constants, read}
use Rattle.calculus.specs.Search.{next}
use Rattle.calculus.specs.Run.{run}
use Rattle.calculus.specs.Branch.{start, assert, root_at, inside, outside, add_inside, add_outside, merge, torn}
use Rattle.calculus.specs.Calls.{asked, call, ended, FALSE, SPENT, NOROOM}
use Rattle.listing_lines.specs.Listing.{program_call}

-- ---- the budget

-- A ⊆ D, B ⊆ D, A ≠ C, A ≠ B, A ≠ C, A ≠ B, A ≠ C, three times A ≠ B, A ≠ A: 1,000 steps. With a budget of 999 it would be SPENT
pub steps_1000 : (program_call (0 ∷ 0 ∷ 4 ∷ 65 ∷ 66 ∷ 67 ∷ 68 ∷ 11 ∷ 9 ∷ 0 ∷ 3 ∷ 9 ∷ 1 ∷ 3 ∷ 6 ∷ 0 ∷ 2 ∷ 6 ∷ 0 ∷ 1 ∷ 6 ∷ 0 ∷ 2 ∷ 6 ∷ 0 ∷ 1 ∷ 6 ∷ 0 ∷ 2 ∷ 6 ∷ 0 ∷ 1 ∷ 6 ∷ 0 ∷ 1 ∷ 6 ∷ 0 ∷ 1 ∷ 6 ∷ 0 ∷ 0 ∷ [])).answer ≡ ended FALSE 1000 0
unfolding program_call start assert next run root_at inside outside add_inside add_outside merge torn ◌>>=◌ ask byte bytes read_constraints read_sets read_variables read_constants read asked call
steps_1000 = refl

-- the first A ≠ C is A ≠ B, else the same: 1,001 steps. With a budget of 1,001 it would be FALSE
pub steps_1001 : (program_call (0 ∷ 0 ∷ 4 ∷ 65 ∷ 66 ∷ 67 ∷ 68 ∷ 11 ∷ 9 ∷ 0 ∷ 3 ∷ 9 ∷ 1 ∷ 3 ∷ 6 ∷ 0 ∷ 1 ∷ 6 ∷ 0 ∷ 1 ∷ 6 ∷ 0 ∷ 2 ∷ 6 ∷ 0 ∷ 1 ∷ 6 ∷ 0 ∷ 2 ∷ 6 ∷ 0 ∷ 1 ∷ 6 ∷ 0 ∷ 1 ∷ 6 ∷ 0 ∷ 1 ∷ 6 ∷ 0 ∷ 0 ∷ [])).answer ≡ ended SPENT 1000 0
unfolding program_call start assert next run root_at inside outside add_inside add_outside merge torn ◌>>=◌ ask byte bytes read_constraints read_sets read_variables read_constants read asked call
steps_1001 = refl

-- ---- the form buffer. A record has 3 bytes for each term, so no problem tells 32,768 bytes from 32,766 or 32,767

-- one constant, ten times A ≠ B: 992 of 1,024 records fit. In 32,769 bytes 993 would
pub records_of_33_bytes : (program_call (1 ∷ 1 ∷ 0 ∷ 0 ∷ 2 ∷ 65 ∷ 66 ∷ 10 ∷ 6 ∷ 0 ∷ 1 ∷ 6 ∷ 0 ∷ 1 ∷ 6 ∷ 0 ∷ 1 ∷ 6 ∷ 0 ∷ 1 ∷ 6 ∷ 0 ∷ 1 ∷ 6 ∷ 0 ∷ 1 ∷ 6 ∷ 0 ∷ 1 ∷ 6 ∷ 0 ∷ 1 ∷ 6 ∷ 0 ∷ 1 ∷ 6 ∷ 0 ∷ 1 ∷ [])).answer ≡ ended NOROOM 997 992
unfolding program_call start assert next run root_at inside outside add_inside add_outside merge torn ◌>>=◌ ask byte bytes read_constraints read_sets read_variables read_constants read asked call
records_of_33_bytes = refl

-- two constants, ten times A ≠ B: 910 of 1,024 records fit. In 32,759 bytes 909 would
pub records_of_36_bytes : (program_call (2 ∷ 1 ∷ 0 ∷ 2 ∷ 0 ∷ 0 ∷ 2 ∷ 65 ∷ 66 ∷ 10 ∷ 6 ∷ 0 ∷ 1 ∷ 6 ∷ 0 ∷ 1 ∷ 6 ∷ 0 ∷ 1 ∷ 6 ∷ 0 ∷ 1 ∷ 6 ∷ 0 ∷ 1 ∷ 6 ∷ 0 ∷ 1 ∷ 6 ∷ 0 ∷ 1 ∷ 6 ∷ 0 ∷ 1 ∷ 6 ∷ 0 ∷ 1 ∷ 6 ∷ 0 ∷ 1 ∷ [])).answer ≡ ended NOROOM 914 910
unfolding program_call start assert next run root_at inside outside add_inside add_outside merge torn ◌>>=◌ ask byte bytes read_constraints read_sets read_variables read_constants read asked call
records_of_36_bytes = refl
