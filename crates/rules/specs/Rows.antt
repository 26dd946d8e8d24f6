-- The rows of the calculus's tables as the code lays them out.
use Rattle.std.specs.Prelude.{◌≡◌, Bool, cond, List, [], ◌∷◌, ◌++◌, ℕ, ◌+◌, ◌-◌, ◌≤◌, ◌<◌, length, get_or, eqb}
use Rattle.calculus.specs.Limits.{most_sets}
use Rattle.calculus.specs.Relations.{Rule, propagation, rows, equal, union, disjoint, subset, intersection, unequal, Operand, operand_of, negation_row}
use Rattle.calculus.specs.Relations as R
use Rattle.constraints.specs.declared.Operands.{Operands}
use Rattle.rules.specs.declared.Literal.{Literal}
use Rattle.rules.specs.declared.Row.{Row}
use Rattle.rules.specs.declared.Split.{Split}
use Rattle.rules.specs.declared.Child.{Child}
use Rattle.rules.specs.declared.Denial.{Denial}

-- the rows of the tables by rule number, from 5 to 18
abbrev pub numbered : ℕ → Rule R.Literal
numbered j = get_or (rows equal ++ negation_row unequal ∷ rows union ++ rows disjoint ++ rows subset ++ rows intersection) (j - 5) (propagation 0 [] (R.In R.A))

-- the literals of its child c
abbrev pub literals_of : (j c : ℕ) → List R.Literal
literals_of j c = get_or (numbered j).alternatives c []

-- how many children a rule can have: the splits 7 and 12 two, any other but 20 one
abbrev pub count_of : ℕ → ℕ
count_of j = cond (eqb j 7) 2 (cond (eqb j 12) 2 1)

-- the numbers of the sets, by operand
abbrev pub sets : Operands → Operand → ℕ
sets s = operand_of s.0.0 s.1.0 s.2.0

-- the first two sets are below the limit
abbrev pub LowPair : Operands → Type 0
LowPair s = (s.0.0 < most_sets) × (s.1.0 < most_sets)

-- rule j has a row, or a child n, of these sets
pub record HasRow (j : ℕ) (s : Operands) : Type 0 where
  pub low : 5 ≤ j
  pub high : j ≤ 18
  pub no_negation : ¬ (j ≡ 7)
  pub no_split : ¬ (j ≡ 12)
  pub low_pair : LowPair s

pub record HasChild (j : ℕ) (s : Operands) (n : ℕ) : Type 0 where
  pub low : 5 ≤ j
  pub high : j ≤ 18
  pub low_pair : LowPair s
  pub there : n < length (numbered j).alternatives

-- the rules of relations that split
abbrev pub splitting : ℕ → Bool
splitting j = eqb j 12

-- a literal's number, and the operand that it is of
abbrev pub literal_number : (Operand → ℕ) → R.Literal → ℕ
literal_number s (R.In p) = s p
literal_number s (R.Out p) = most_sets + s p

abbrev pub operand_in : R.Literal → Operand
operand_in (R.In p) = p
operand_in (R.Out p) = p

-- the first of some literals, the second or else the first, and the last
abbrev pub head : List R.Literal → R.Literal
head ls = get_or ls 0 (R.In R.A)

abbrev pub second : List R.Literal → R.Literal
second ls = get_or ls 1 (head ls)

abbrev pub last : List R.Literal → R.Literal
last ls = get_or ls (length ls - 1) (R.In R.A)

-- a rule's child by number, or else the first; and its last
abbrev pub child_at : ℕ → Rule R.Literal → List R.Literal
child_at c r = get_or r.alternatives c (get_or r.alternatives 0 [])

abbrev pub last_child : Rule R.Literal → List R.Literal
last_child r = child_at (length r.alternatives - 1) r

abbrev pub literal : (Operand → ℕ) → R.Literal → Literal
literal s l = record { 0 = literal_number s l }

-- a propagation rule: its first and last premise, and what it gives
abbrev pub laid : (Operand → ℕ) → Rule R.Literal → Row
laid s r = record { 0 = literal s (head r.premises); 1 = literal s (last r.premises); 2 = literal s (head (child_at 0 r)) }

-- the set of a split's first child, and the other set of the second
abbrev pub left_operand : Rule R.Literal → Operand
left_operand r = operand_in (head (child_at 0 r))

abbrev pub right_operand : Rule R.Literal → Operand
right_operand r = operand_in (last (child_at 1 r))

-- a split at any class: its premise, and the two sets
abbrev pub parted : (Operand → ℕ) → Rule R.Literal → Split
parted s r = record { 0 = literal s (head r.premises); 1 = record { 0 = s (left_operand r) }; 2 = record { 0 = s (right_operand r) } }

-- a child by its literals, and of one alone
abbrev pub child : (Operand → ℕ) → List R.Literal → Child
child s ls = record { 0 = literal s (head ls); 1 = literal s (second ls); 2 = literal s (last ls) }

abbrev pub only : Literal → Child
only l = record { 0 = l; 1 = l; 2 = l }

-- a negation's split, by its children
abbrev pub denying : (Operand → ℕ) → Rule R.Literal → Denial
denying s r = record { 0 = child s (child_at 0 r); 1 = child s (child_at 1 r); 2 = child s (last_child r) }
