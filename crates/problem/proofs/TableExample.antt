-- The table of document 01's first example (C1), computed: constants 3, 4; x; A; x in A, A = [3, 4], x ≠ 3; and of A ≠ B twice.
use mathlib.Core.Path.{◌≡◌, refl}
use mathlib.Core.List.{[], ◌∷◌}
use Prim.Native.Nat.{ℕ}
use Rattle.std.specs.Prelude.{Some}
use Rattle.calculus.specs.Limits.{most_constraints}
use Rattle.calculus.specs.Reading.{◌>>=◌, ask, byte, bytes, read_constraints, read_sets, read_variables, read_constants, read}
use Rattle.slices.specs.Bytes.{filled}
use Rattle.problem.specs.declared.table.Line.{Line}
use Rattle.problem.specs.Sections.{no_line}
use Rattle.problem.specs.Table.{table_of, problem_table}

abbrev line : ℕ → ℕ → Line
line at w = record { at = at; witness = record { 0 = w } }

c1 : table_of (read (2 ∷ 3 ∷ 0 ∷ 4 ∷ 0 ∷ 1 ∷ 120 ∷ 1 ∷ 65 ∷ 3 ∷ 1 ∷ 2 ∷ 0 ∷ 12 ∷ 0 ∷ 0 ∷ 1 ∷ 4 ∷ 2 ∷ 0 ∷ []))
    ≡ Some (record { constants = 2; variables = 1; sets = 1; constraints = 3; terms = 3; lines = filled no_line most_constraints (line 10 3 ∷ line 13 3 ∷ line 17 3 ∷ []) })
unfolding table_of problem_table ◌>>=◌ ask byte bytes read_constraints read_sets read_variables read_constants read
c1 = refl

unequal_twice : table_of (read (0 ∷ 0 ∷ 2 ∷ 65 ∷ 66 ∷ 3 ∷ 6 ∷ 0 ∷ 1 ∷ 9 ∷ 0 ∷ 1 ∷ 6 ∷ 1 ∷ 0 ∷ []))
    ≡ Some (record { constants = 0; variables = 0; sets = 2; constraints = 3; terms = 2; lines = filled no_line most_constraints (line 6 0 ∷ line 9 1 ∷ line 12 1 ∷ []) })
unfolding table_of problem_table ◌>>=◌ ask byte bytes read_constraints read_sets read_variables read_constants read
unequal_twice = refl
