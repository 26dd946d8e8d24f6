-- The questions once more, told from the writing side and without the reader: which is the first that is answered "no".
use Rattle.std.specs.Prelude.{◌≡◌, ◌↔◌, List, [], ◌∷◌, ◌++◌, ℕ, ◌+◌, ◌*◌, ◌≤◌, ◌<◌, length, get_or, replicate, ℤ, pos, negsuc, ◌≤ℤ◌}
use Rattle.calculus.specs.Limits.{most_bytes, most_sets, most_constraints, most_terms, most_steps}
use Rattle.calculus.specs.Lists.{Each, gather}
use Rattle.calculus.specs.Meaning.{Constraint, ◌∈◌}
use Rattle.calculus.specs.Problem.{Problem, Rising, Letters, Refers, uses}
use Rattle.calculus.specs.Encoding.{Bytes, two_bytes, encode_constraint, Written, Handed, Fits16, WrittenAssignment}
use Rattle.calculus.specs.Reading.{refused, read}

-- The types below that have a number say that it is that of the first "no" of these bytes; Next says so of the bytes that follow what is asked about.

pub data OfLength (Next : List ℕ → ℕ → Type 0) : List ℕ → ℕ → Type 0 where
  -- Is the problem at most 4,096 bytes? 1
  too_long : (bs : List ℕ) → most_bytes < length bs → OfLength Next bs 1
  after_length : (bs : List ℕ) (n : ℕ) → length bs ≤ most_bytes → Next bs n → OfLength Next bs n

-- a count, or what it counts, size bytes each, is not all there
pub data Missing (size : ℕ) : List ℕ → Type 0 where
  no_count : Missing size []
  too_few : (n : ℕ) (rest : List ℕ) → length rest < size * n → Missing size (n ∷ rest)

-- from −32,000 to 32,000
abbrev pub InRange : ℤ → Type 0
InRange c = (negsuc 31999 ≤ℤ c) × (c ≤ℤ pos 32000)

pub data OfConstants (Next : List ℤ → List ℕ → ℕ → Type 0) : List ℕ → ℕ → Type 0 where
  -- Are the constants' count and bytes all there? 2
  constants_missing : (bs : List ℕ) → Missing 2 bs → OfConstants Next bs 2
  -- Are the constants ascending and in range? 3
  no_constants : (cs : List ℤ) (rest : List ℕ) → Each Fits16 cs → ¬ (Rising cs × Each InRange cs) → OfConstants Next (length cs ∷ (gather two_bytes cs ++ rest)) 3
  after_constants : (cs : List ℤ) (rest : List ℕ) (n : ℕ) → Rising cs → Each InRange cs → Next cs rest n → OfConstants Next (length cs ∷ (gather two_bytes cs ++ rest)) n

pub data OfVariables (Next : List ℕ → List ℕ → ℕ → Type 0) : List ℕ → ℕ → Type 0 where
  -- Are the variables all there? 2
  variables_missing : (bs : List ℕ) → Missing 1 bs → OfVariables Next bs 2
  -- Ascending small letters? 4
  no_variables : (ns rest : List ℕ) → ¬ Letters 97 122 ns → OfVariables Next (length ns ∷ (ns ++ rest)) 4
  after_variables : (ns rest : List ℕ) (n : ℕ) → Letters 97 122 ns → Next ns rest n → OfVariables Next (length ns ∷ (ns ++ rest)) n

pub data OfSets (Next : List ℕ → List ℕ → ℕ → Type 0) : List ℕ → ℕ → Type 0 where
  -- Are the set variables all there? 2
  sets_missing : (bs : List ℕ) → Missing 1 bs → OfSets Next bs 2
  -- Ascending capitals, at most 8? 5
  no_sets : (ss rest : List ℕ) → ¬ (Letters 65 90 ss × (length ss ≤ most_sets)) → OfSets Next (length ss ∷ (ss ++ rest)) 5
  after_sets : (ss rest : List ℕ) (n : ℕ) → Letters 65 90 ss → length ss ≤ most_sets → Next ss rest n → OfSets Next (length ss ∷ (ss ++ rest)) n

-- ---- one constraint

-- what an operand is: the number of a term, the number of a set, or a count, which names nothing
pub data Sort : Type 0 where
  a_term aSet aCount : Sort

-- the operands of kinds 0 (which is none) to 12; n is the count of kind 11
abbrev pub operand_table : ℕ → List (List Sort)
operand_table n =
    []
    ∷ (a_term ∷ aSet ∷ []) ∷ (a_term ∷ aSet ∷ [])
    ∷ (a_term ∷ a_term ∷ []) ∷ (a_term ∷ a_term ∷ [])
    ∷ (aSet ∷ aSet ∷ []) ∷ (aSet ∷ aSet ∷ [])
    ∷ (aSet ∷ aSet ∷ aSet ∷ [])
    ∷ (aSet ∷ aSet ∷ []) ∷ (aSet ∷ aSet ∷ [])
    ∷ (aSet ∷ aSet ∷ aSet ∷ [])
    ∷ (aSet ∷ aCount ∷ replicate n a_term) ∷ (aSet ∷ a_term ∷ a_term ∷ []) ∷ []

-- the operands of kind k where bs follows it: the count of kind 11 is its second operand; a byte that is no kind has none
abbrev pub operands : ℕ → List ℕ → List Sort
operands k bs = get_or (operand_table (get_or bs 1 0)) k []

-- cs are the constants, the first N terms can be named, and there are S sets
module _ (cs : List ℤ) (N S : ℕ) where
  -- an operand names what is there
  abbrev pub Names : Sort → ℕ → Type 0
  Names a_term x = x < N
  Names aSet x = x < S
  Names aCount x = Unit {0}

  pub data OfConstraint : List ℕ → ℕ → Type 0 where
    -- Is the kind byte there? 2
    kind_missing : OfConstraint [] 2
    -- Is it 1 to 12? 7
    no_kind : (k : ℕ) (rest : List ℕ) → ¬ ((1 ≤ k) × (k ≤ 12)) → OfConstraint (k ∷ rest) 7
    -- Are the operands there? 2
    operands_missing : (k : ℕ) (rest : List ℕ) → length rest < length (operands k rest) → OfConstraint (k ∷ rest) 2
    -- Does each name a constant, variable or set of the problem, as the kind wants? 8
    names_nothing : (k : ℕ) (xs rest : List ℕ) → length xs ≡ length (operands k xs) → ¬ ((p : ℕ) → p < length xs → Names (get_or (operands k xs) p aCount) (get_or xs p 0)) → OfConstraint (k ∷ (xs ++ rest)) 8
    -- For kind 12 (where a variable as an end passes 8), are both ends constants, and is every whole number between them (none where j < i) also a constant of the problem? 9
    not_filled : (A i j : ℕ) (rest : List ℕ) → A < S → i < N → j < N → ¬ ((i < length cs) × (j < length cs) × ((x : ℤ) → get_or cs i (pos 0) ≤ℤ x → x ≤ℤ get_or cs j (pos 0) → x ∈ cs)) → OfConstraint (12 ∷ A ∷ i ∷ j ∷ rest) 9

-- ---- all constraints

-- one witness for each constraint of kind 6
abbrev pub witness_count : List Constraint → ℕ
witness_count [] = 0
witness_count (l ∷ ls) = uses l + witness_count ls

-- constants cs, variables ns, set variables ss
module _ (cs : List ℤ) (ns ss : List ℕ) where
  abbrev N : ℕ
  N = length cs + length ns

  -- constraints of which questions 2 and 7 to 9 are answered "yes"
  abbrev AllRefer : List Constraint → Type 0
  AllRefer ls = Each (Refers cs N (length ss)) ls

  pub data OfConstraints : List ℕ → ℕ → Type 0 where
    -- Is the count of constraints there? 2
    count_missing : OfConstraints [] 2
    -- At most 48? 6
    too_many : (m : ℕ) (rest : List ℕ) → most_constraints < m → OfConstraints (m ∷ rest) 6
    -- Constraints are asked one by one: of this one, after those that pass.
    in_constraint : (m n : ℕ) (ls : List Constraint) (rest : List ℕ) → m ≤ most_constraints → length ls < m → AllRefer ls → OfConstraint cs N (length ss) rest n → OfConstraints (m ∷ (gather encode_constraint ls ++ rest)) n
    -- Is nothing left after the last constraint? 10
    left_over : (ls : List Constraint) (rest : List ℕ) → length ls ≤ most_constraints → AllRefer ls → 0 < length rest → OfConstraints (length ls ∷ (gather encode_constraint ls ++ rest)) 10
    -- Is T at most 64? 11
    many_terms : (ls : List Constraint) → length ls ≤ most_constraints → AllRefer ls → most_terms < N + witness_count ls → OfConstraints (length ls ∷ gather encode_constraint ls) 11

-- of these bytes question n is the first that is answered "no"
abbrev pub FirstNo : List ℕ → ℕ → Type 0
FirstNo = OfLength (OfConstants (λ cs. OfVariables (λ ns. OfSets (λ ss. OfConstraints cs ns ss))))

-- ---- of a call

pub data FirstNoOfRun (bytes : List ℕ) (budget room : ℕ) : ℕ → Type 0 where
  of_problem : {n : ℕ} → FirstNo bytes n → FirstNoOfRun bytes budget room n
  -- Is the budget at most 10,000? 12
  over_budget : (prob : Problem) → Written bytes prob → most_steps < budget → FirstNoOfRun bytes budget room 12
  -- Is the trace buffer, of room bytes, at least 4 × budget bytes? 13
  short_trace : (prob : Problem) → Written bytes prob → budget ≤ most_steps → room < 4 * budget → FirstNoOfRun bytes budget room 13

pub data FirstNoOfCheck (bytes assignment : List ℕ) : ℕ → Type 0 where
  of_problem : {n : ℕ} → FirstNo bytes n → FirstNoOfCheck bytes assignment n
  -- Is the assignment one for the problem, and no more? 14
  no_assignment : (prob : Problem) → Written bytes prob → ((g : Handed) → ¬ WrittenAssignment prob assignment g) → FirstNoOfCheck bytes assignment 14

-- The reader refuses with the number of the first question that is answered "no".
abbrev pub Questions : Type 0
Questions = (bytes : List ℕ) → Bytes bytes → (n : ℕ) → (read bytes ≡ refused n) ↔ FirstNo bytes n
