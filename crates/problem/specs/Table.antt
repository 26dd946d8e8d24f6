-- A problem's table, and what is read through it. Assumes nothing: these are definitions.
use Rattle.std.specs.Prelude.{◌≡◌, List, [], ℕ, ◌+◌, ◌*◌, ◌<◌, length, get_or, ℤ, pos, Option, Some, None}
use Rattle.calculus.specs.Limits.{most_constraints}
use Rattle.calculus.specs.Terms.{Term, term}
use Rattle.calculus.specs.Relations.{equal, union, disjoint, subset, intersection, unequal}
use Rattle.calculus.specs.Meaning.{Constraint, member, nonmember, same, different, relation, negation, exactly, interval}
use Rattle.calculus.specs.Problem.{Problem, constant_count, nameable, term_count, set_count}
use Rattle.calculus.specs.Reading.{Parsed, parsed, refused, read}
use Rattle.slices.specs.Bytes.{filled}
use Rattle.problem.specs.declared.table.Line.{Line}
use Rattle.problem.specs.declared.table.Table.{Table}
use Rattle.problem.specs.Sections.{witnesses_from, no_line, lines_from}

-- the bytes before the constraints: four count bytes, two for each constant, a letter for each variable and set
abbrev pub header_length : Problem → ℕ
header_length prob = 4 + 2 * constant_count prob + length prob.variables + set_count prob

-- What the table of a problem holds: how many constants, variables, sets, constraints and terms (witnesses too) there are, and for each
-- constraint where its kind byte stands and the term number of its witness (where it has none, that of the next one). The lines are filled
-- up with 0 to most_constraints.
unfoldable pub problem_table : Problem → Table
problem_table prob = record {
  constants = constant_count prob;
  variables = length prob.variables;
  sets = set_count prob;
  constraints = length prob.constraints;
  terms = term_count prob;
  lines = filled no_line most_constraints (lines_from (header_length prob) (nameable prob) prob.constraints);
}

abbrev pub TableOf : Problem → Table → Type 0
TableOf prob tab = tab ≡ problem_table prob

-- ---- through the table

-- the table of what was read, if that is a problem
unfoldable pub table_of : Parsed Problem → Option Table
table_of (parsed prob) = Some (problem_table prob)
table_of (refused n) = None

-- it is the table of these bytes, which are a problem
abbrev pub Opened : List ℕ → Table → Type 0
Opened bs tab = table_of (read bs) ≡ Some tab

-- the line of constraint i
abbrev pub line_of : Table → ℕ → Line
line_of tab i = get_or tab.lines i no_line

-- constraint i of a problem is there, and its kind byte stands at an offset
pub record Stands (bs : List ℕ) (i at : ℕ) : Type 0 where
  pub tab : Table
  pub opened : Opened bs tab
  pub there : i < tab.constraints
  pub offset : at ≡ (line_of tab i).at

-- the constants of a problem that was read, and the value of constant t
unfoldable pub values_of : Parsed Problem → List ℤ
values_of (parsed prob) = prob.constants
values_of (refused n) = []

unfoldable pub constant_of : List ℕ → ℕ → ℤ
constant_of bs t = get_or (values_of (read bs)) t (pos 0)

-- the constraints of a problem that was read, and constraint i (past the last there is none, and this one stands for it)
unfoldable pub constraints_of : Parsed Problem → List Constraint
constraints_of (parsed prob) = prob.constraints
constraints_of (refused n) = []

abbrev pub no_constraint : Constraint
no_constraint = same (term 0) (term 0)

unfoldable pub constraint_of : List ℕ → ℕ → Constraint
constraint_of bs i = get_or (constraints_of (read bs)) i no_constraint

abbrev pub kind_of : Constraint → ℕ
kind_of (member t A) = 1
kind_of (nonmember t A) = 2
kind_of (same t u) = 3
kind_of (different t u) = 4
kind_of (relation equal A B C) = 5
kind_of (negation unequal A B C w) = 6
kind_of (relation union A B C) = 7
kind_of (relation disjoint A B C) = 8
kind_of (relation subset A B C) = 9
kind_of (relation intersection A B C) = 10
kind_of (exactly A es) = 11
kind_of (interval A i j es) = 12

-- the term number of constraint i's witness; where it has none, of the next one
unfoldable pub witnesses_of : Parsed Problem → List ℕ
witnesses_of (parsed prob) = witnesses_from (nameable prob) prob.constraints
witnesses_of (refused n) = []

unfoldable pub witness_of : List ℕ → ℕ → Term
witness_of bs i = term (get_or (witnesses_of (read bs)) i 0)
