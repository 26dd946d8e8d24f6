-- What an opened table says of the problem: its terms, constants and sets are within bounds, and every constraint is in range.
use mathlib.Core.Path.{refl}
use mathlib.Core.List.{List}
use Prim.Native.Nat.{ℕ, ◌<◌, ◌≤◌}
use native.Mathlib.Omega.{arith}
use lib.ListN.{length}
use Rattle.calculus.specs.Limits.{most_terms}
use Rattle.calculus.specs.Lists.{Each}
use Rattle.calculus.specs.Terms.{Term}
use Rattle.calculus.specs.Invariants.{ConstraintIn}
use Rattle.calculus.proofs.ConstraintLaws.{constraints_within}
use Rattle.calculus.proofs.ReadValid.{read_valid}
use Rattle.calculus.proofs.Sequences.{terms_each}
use Rattle.problem.specs.declared.Table.{Table}
use Rattle.problem.specs.Table.{problem_table, Opened, constraints_of}
use Rattle.problem.proofs.Access.{opened, opened_sizes, constraint_count}
use Rattle.branch.specs.declared.Branch.{Branch}
use Rattle.branch.specs.Held.{held, Sound}
use Rattle.branch.proofs.Restricting.{Among}
use Rattle.fits.specs.Words.{Shown}
use Rattle.solver.specs.ComesTo.{constants, constraints_in}

module _ (bs : List ℕ) (tab : Table) (o : Opened bs tab) where
  pub in_range : Each (ConstraintIn tab.terms tab.sets) (constraints_in bs tab)
  unfolding problem_table constraints_of
  in_range = let r = opened bs tab o in rw (r.shows, r.reads) (constraints_within r.prob (read_valid bs r.prob r.reads))

  pub constants_few : tab.constants ≤ tab.terms
  unfolding problem_table
  constants_few = let r = opened bs tab o in rw r.shows (omega arith)

  pub among : Among tab.terms (constants bs tab)
  among = terms_each (λ (t : Term). t.index < tab.terms) 0 tab.constants (λ t l h. omega (arith, constants_few))

  pub terms_few : tab.terms ≤ most_terms
  terms_few = (opened_sizes bs tab o).2

  pub place_there : {i : ℕ} → i < length (constraints_in bs tab) → i < tab.constraints
  place_there l = omega (arith, constraint_count bs tab o)

-- a branch of the run, as it is lent to a search
module _ {cs : List Term} {b : Branch} (s : Sound cs b) where
  pub shows : Shown (held b) b.parents b.rows
  shows = record { parents_are = refl; rows_are = s.rowed.rows }
