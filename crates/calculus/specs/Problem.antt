-- A problem (document 01: a sheet), its assignments (settings), and what it is to satisfy it.
use Rattle.std.specs.Prelude.{◌≡◌, cond, List, [], ◌∷◌, ℕ, suc, ◌+◌, ◌-◌, ◌<◌, ◌≤◌, length, get_or, ltb, ℤ, pos, negsuc, ◌≤ℤ◌, ◌<ℤ◌}
use Rattle.calculus.specs.Limits.{most_sets, most_constraints, most_terms}
use Rattle.calculus.specs.Lists.{Each}
use Rattle.calculus.specs.Terms.{Term, SetVar, terms_from}
use Rattle.calculus.specs.Relations.{Relation, equal, union, disjoint, subset, intersection}
use Rattle.calculus.specs.Meaning.{Constraint, member, nonmember, same, different, relation, negation, exactly, interval, ◌∈◌, Valuation, Holds}

-- the constants' values, the variables' and the set variables' letters, how many witnesses there are, and the constraints
pub record Problem : Type 0 where
  pub constants : List ℤ
  pub variables : List ℕ
  pub sets : List ℕ
  pub witnesses : ℕ
  pub constraints : List Constraint

-- Terms are numbered: constants, then variables (which a constraint can name), then witnesses.
abbrev pub constant_count : Problem → ℕ
constant_count prob = length prob.constants

abbrev pub nameable : Problem → ℕ
nameable prob = constant_count prob + length prob.variables

-- document 01's T and S
abbrev pub term_count : Problem → ℕ
term_count prob = nameable prob + prob.witnesses

abbrev pub set_count : Problem → ℕ
set_count prob = length prob.sets

abbrev pub constant_terms : Problem → List Term
constant_terms prob = terms_from 0 (constant_count prob)

-- ---- assignments

-- any whole number for each variable, by its place among the variables; any finite set for each set variable
pub record Assignment : Type 0 where
  pub number : ℕ → ℤ
  pub members : SetVar → List ℤ

-- the value of a term: a constant has its own, a variable what the assignment gives, a witness what is chosen for it
abbrev pub value_of : Problem → (ℕ → ℤ) → (Term → ℤ) → Term → ℤ
value_of prob number witness t =
    cond (ltb t.index (constant_count prob)) (get_or prob.constants t.index (pos 0))
    (cond (ltb t.index (nameable prob)) (number (t.index - constant_count prob)) (witness t))

abbrev pub values : Problem → Assignment → (Term → ℤ) → Valuation
values prob g witness = record { num = value_of prob g.number witness; members = g.members }

-- The assignment satisfies the problem (document 01: the setting meets the sheet, is a solution): every constraint's meaning is true of it. The witnesses have 0 here, and no constraint of a valid problem names one.
abbrev pub Satisfies : Problem → Assignment → Type 0
Satisfies prob g = Each (Holds (values prob g (λ _. pos 0))) prob.constraints

-- ---- what every accepted problem has

-- strictly ascending
abbrev pub Rising : List ℤ → Type 0
Rising xs = (p q : ℕ) → p < q → q < length xs → get_or xs p (pos 0) <ℤ get_or xs q (pos 0)

-- strictly ascending letters from lo to hi
pub record Letters (lo hi : ℕ) (cs : List ℕ) : Type 0 where
  pub rising : (p q : ℕ) → p < q → q < length cs → get_or cs p 0 < get_or cs q 0
  pub range : (p : ℕ) → p < length cs → (lo ≤ get_or cs p 0) × (get_or cs p 0 ≤ hi)

-- a relation of two sets repeats its first operand, and so does a negation (Refers)
abbrev pub Repeats : Relation → SetVar → SetVar → Type 0
Repeats equal A C = C ≡ A
Repeats union A C = Unit {0}
Repeats disjoint A C = C ≡ A
Repeats subset A C = C ≡ A
Repeats intersection A C = Unit {0}

-- the entries of an interval: constants i to j
abbrev pub entries : Term → Term → List Term
entries i j = terms_from i.index (suc j.index - i.index)

-- questions 8 and 9 of a constraint, and that it is told in one way (Repeats, and an interval has its entries): cs are the constants, the first N terms can be named, and there are S sets
abbrev pub Refers : List ℤ → ℕ → ℕ → Constraint → Type 0
Refers cs N S (member t A) = (t.index < N) × (A.index < S)
Refers cs N S (nonmember t A) = (t.index < N) × (A.index < S)
Refers cs N S (same t u) = (t.index < N) × (u.index < N)
Refers cs N S (different t u) = (t.index < N) × (u.index < N)
Refers cs N S (relation k A B C) = (A.index < S) × (B.index < S) × (C.index < S) × Repeats k A C
Refers cs N S (negation k A B C w) = (A.index < S) × (B.index < S) × (C ≡ A)
Refers cs N S (exactly A es) = (A.index < S) × Each (λ e. e.index < N) es
Refers cs N S (interval A i j es) = (A.index < S) × (i.index < length cs) × (j.index < length cs) × ((x : ℤ) → get_or cs i.index (pos 0) ≤ℤ x → x ≤ℤ get_or cs j.index (pos 0) → x ∈ cs) × (es ≡ entries i j)

-- how many witnesses a constraint has, and that it is term w
abbrev pub uses : Constraint → ℕ
uses (member t A) = 0
uses (nonmember t A) = 0
uses (same t u) = 0
uses (different t u) = 0
uses (relation k A B C) = 0
uses (negation k A B C w) = 1
uses (exactly A es) = 0
uses (interval A i j es) = 0

abbrev pub Tied : ℕ → Constraint → Type 0
Tied w (member t A) = Unit {0}
Tied w (nonmember t A) = Unit {0}
Tied w (same t u) = Unit {0}
Tied w (different t u) = Unit {0}
Tied w (relation k A B C) = Unit {0}
Tied w (negation k A B C u) = u.index ≡ w
Tied w (exactly A es) = Unit {0}
Tied w (interval A i j es) = Unit {0}

-- the witnesses are numbered from w, in the order of the constraints, up to last
abbrev pub Numbered : ℕ → ℕ → List Constraint → Type 0
Numbered w last [] = w ≡ last
Numbered w last (l ∷ ls) = Tied w l × Numbered (w + uses l) last ls

-- what questions 3 to 6, 8, 9 and 11 ask of a problem, and that its witnesses are numbered in order
pub record Valid (prob : Problem) : Type 0 where
  pub rising : Rising prob.constants
  pub range : (p : ℕ) → p < constant_count prob → (negsuc 31999 ≤ℤ get_or prob.constants p (pos 0)) × (get_or prob.constants p (pos 0) ≤ℤ pos 32000)
  pub variables : Letters 97 122 prob.variables
  pub sets : Letters 65 90 prob.sets
  pub few_sets : set_count prob ≤ most_sets
  pub few_constraints : length prob.constraints ≤ most_constraints
  pub refers : Each (Refers prob.constants (nameable prob) (set_count prob)) prob.constraints
  pub numbered : Numbered (nameable prob) (term_count prob) prob.constraints
  pub few_terms : term_count prob ≤ most_terms
