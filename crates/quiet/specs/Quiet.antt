-- Which constraints a search need not look at, and which a step wakes.
use Rattle.std.specs.Prelude.{◌≡◌, Bool, true, false, ◌&&◌, List, ℕ, ◌+◌, ◌^◌, ◌≤◌, ◌<◌, length, get_or, eqb, ltb}
use Rattle.std.proofs.Math.Option.{none}
use Rattle.calculus.specs.Lists.{any, bit}
use Rattle.calculus.specs.Terms.{Term}
use Rattle.calculus.specs.Relations.{Literal, operand_of}
use Rattle.calculus.specs.Meaning.{Constraint, member, nonmember, same, different, relation, negation, exactly, interval}
use Rattle.calculus.specs.Branch.{Branch}
use Rattle.problem.specs.Table.{no_constraint}
use Rattle.places.specs.Places.{span_of, split_span, InSpan, RuleOf, row_of, entries_of, first_at}
use Rattle.branch.specs.Rows.{literal_count}
use Rattle.rules.specs.Rows.{literal_number}

-- no propagation rule of a constraint applies, or no split
abbrev pub Idle : Bool → ℕ → Branch → Constraint → Type 0
Idle split n b l = (j : ℕ) → InSpan (span_of split l) j → first_at n b l j ≡ none

-- the constraints that are not in a mask are idle
abbrev pub Quiet : Bool → ℕ → List Constraint → Branch → ℕ → Type 0
Quiet split n ls b mask = (i : ℕ) → i < length ls → bit mask i ≡ false → Idle split n b (get_or ls i no_constraint)

-- rule j of a constraint needs literal k of the class that it concerns
abbrev pub needs : Constraint → ℕ → ℕ → Bool
needs (member t A) j k = false
needs (nonmember t A) j k = false
needs (same t u) j k = false
needs (different t u) j k = false
needs (relation r A B C) j k = any (λ (x : Literal). eqb (literal_number (operand_of A.index B.index C.index) x) k) (row_of r j).premises
needs (negation r A B C w) j k = false
needs (exactly A es) j k = eqb j 20 && eqb A.index k
needs (interval A x y es) j k = eqb j 20 && eqb A.index k

-- rule j needs two facts of one class: a merge of two classes can make it apply
abbrev pub pairs : Constraint → ℕ → Bool
pairs (member t A) j = false
pairs (nonmember t A) j = false
pairs (same t u) j = false
pairs (different t u) j = true
pairs (relation r A B C) j = ltb 1 (length (row_of r j).premises)
pairs (negation r A B C w) j = false
pairs (exactly A es) j = false
pairs (interval A x y es) j = false

-- Marks of a constraint: the literals that it needs, then three more: a rule of it needs two facts of one class; it may rest; it has a split.
abbrev pub pair_mark : ℕ
pair_mark = literal_count

abbrev pub rest_mark : ℕ
rest_mark = literal_count + 1

abbrev pub split_mark : ℕ
split_mark = literal_count + 2

abbrev pub mark_count : ℕ
mark_count = literal_count + 3

-- What is prepared once a run, as bits. By constraint, its entries. By mark, constraints: by literal, at least those that need it; then at least those that a merge can wake; a word of which nothing is said; and last, at least those that have a split.
pub record WordsOf (ls : List Constraint) (entries marks : List ℕ) : Type 0 where
  pub listed : (i : ℕ) → i < length ls → (h : ℕ) → bit (get_or entries i 0) h ≡ any (λ (e : Term). eqb e.index h) (entries_of (get_or ls i no_constraint))
  pub small : (i : ℕ) → i < length ls → get_or entries i 0 < 2 ^ 64
  pub needing : (i : ℕ) → i < length ls → (j k : ℕ) → RuleOf (get_or ls i no_constraint) j → needs (get_or ls i no_constraint) j k ≡ true → bit (get_or marks k 0) i ≡ true
  pub paired : (i : ℕ) → i < length ls → (j : ℕ) → RuleOf (get_or ls i no_constraint) j → pairs (get_or ls i no_constraint) j ≡ true → bit (get_or marks pair_mark 0) i ≡ true
  pub splits : (i : ℕ) → i < length ls → (j : ℕ) → InSpan (split_span (get_or ls i no_constraint)) j → bit (get_or marks split_mark 0) i ≡ true
  pub low : (k : ℕ) → k ≤ pair_mark → (i : ℕ) → bit (get_or marks k 0) i ≡ true → i < length ls
