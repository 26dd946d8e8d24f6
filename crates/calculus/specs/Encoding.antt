-- How a problem and an assignment are written as bytes: document 01's format, told from the other side.
use Rattle.std.specs.Prelude.{◌≡◌, List, [], ◌∷◌, ◌++◌, map, ℕ, ◌-◌, ◌/◌, ◌%◌, ◌≤◌, ◌<◌, length, ℤ, pos, negsuc, ◌≤ℤ◌}
use Rattle.calculus.specs.Limits.{most_bytes}
use Rattle.calculus.specs.Lists.{Each, gather}
use Rattle.calculus.specs.Terms.{Term}
use Rattle.calculus.specs.Relations.{equal, union, disjoint, subset, intersection, unequal}
use Rattle.calculus.specs.Meaning.{Constraint, member, nonmember, same, different, relation, negation, exactly, interval}
use Rattle.calculus.specs.Problem.{Problem, set_count, Rising, Valid}

abbrev pub Bytes : List ℕ → Type 0
Bytes bs = Each (λ x. x < 256) bs

-- two bytes, low byte first, two's complement
abbrev pub two_bytes : ℤ → List ℕ
two_bytes (pos n) = n % 256 ∷ n / 256 ∷ []
two_bytes (negsuc n) = (65535 - n) % 256 ∷ (65535 - n) / 256 ∷ []

-- a kind byte, then one-byte operands
abbrev pub encode_constraint : Constraint → List ℕ
encode_constraint (member t A) = 1 ∷ t.index ∷ A.index ∷ []
encode_constraint (nonmember t A) = 2 ∷ t.index ∷ A.index ∷ []
encode_constraint (same t u) = 3 ∷ t.index ∷ u.index ∷ []
encode_constraint (different t u) = 4 ∷ t.index ∷ u.index ∷ []
encode_constraint (relation equal A B C) = 5 ∷ A.index ∷ B.index ∷ []
encode_constraint (negation unequal A B C w) = 6 ∷ A.index ∷ B.index ∷ []
encode_constraint (relation union A B C) = 7 ∷ A.index ∷ B.index ∷ C.index ∷ []
encode_constraint (relation disjoint A B C) = 8 ∷ A.index ∷ B.index ∷ []
encode_constraint (relation subset A B C) = 9 ∷ A.index ∷ B.index ∷ []
encode_constraint (relation intersection A B C) = 10 ∷ A.index ∷ B.index ∷ C.index ∷ []
encode_constraint (exactly A es) = 11 ∷ A.index ∷ length es ∷ map (λ (e : Term). e.index) es
encode_constraint (interval A i j es) = 12 ∷ A.index ∷ i.index ∷ j.index ∷ []

-- four sections in fixed order, each after a one-byte count
abbrev pub encode : Problem → List ℕ
encode prob =
    (length prob.constants ∷ gather two_bytes prob.constants)
    ++ (length prob.variables ∷ prob.variables)
    ++ (length prob.sets ∷ prob.sets)
    ++ (length prob.constraints ∷ gather encode_constraint prob.constraints)

-- these bytes are this problem
pub record Written (bs : List ℕ) (prob : Problem) : Type 0 where
  pub encoded : bs ≡ encode prob
  pub short : length bs ≤ most_bytes
  pub valid : Valid prob

-- an assignment as it is handed in: a value for each variable, and ascending members for each set
pub record Handed : Type 0 where
  pub numbers : List ℤ
  pub sets : List (List ℤ)

abbrev pub Fits16 : ℤ → Type 0
Fits16 x = (negsuc 32767 ≤ℤ x) × (x ≤ℤ pos 32767)

-- a count byte, a two-byte value each, then per set a count byte and two-byte values
abbrev pub encode_handed : Handed → List ℕ
encode_handed g = (length g.numbers ∷ gather two_bytes g.numbers) ++ gather (λ xs. length xs ∷ gather two_bytes xs) g.sets

-- these bytes are this assignment of the problem, and no more: a value for each variable, strictly ascending values for each set
pub record WrittenAssignment (prob : Problem) (bs : List ℕ) (g : Handed) : Type 0 where
  pub encoded : bs ≡ encode_handed g
  pub numbers : length g.numbers ≡ length prob.variables
  pub sets : length g.sets ≡ set_count prob
  pub rising : Each (λ xs. Rising xs × (length xs < 256)) g.sets
  pub range : Each (λ xs. Each Fits16 xs) (g.numbers ∷ g.sets)
