-- Constraints (document 01: lines), and what they mean of whole numbers for the terms and finite sets for the set variables.
use Rattle.std.specs.Prelude.{◌≡◌, ◌↔◌, ◌⊎◌, List, [], ◌∷◌, map, ℤ, ◌≤ℤ◌}
use Rattle.calculus.specs.Terms.{Term, SetVar}
use Rattle.calculus.specs.Relations.{Relation, equal, union, disjoint, subset, intersection, Negation, denies}

-- Kinds 1, 2: member, nonmember; 3, 4: same, different; 5, 7 to 10: relation; 6: negation, with its witness w; 11: exactly; 12: interval, with its entries. A relation of two sets, and a negation of one, repeats A for C.
pub data Constraint : Type 0 where
  member nonmember : (t : Term) (A : SetVar) → Constraint
  same different : (t u : Term) → Constraint
  relation : Relation → (A B C : SetVar) → Constraint
  negation : Negation → (A B C : SetVar) (w : Term) → Constraint
  exactly : (A : SetVar) → List Term → Constraint
  interval : (A : SetVar) (i j : Term) → List Term → Constraint

-- x is a member of a finite set, which is a list of its members
infix 4 ◌∈◌
abbrev pub ◌∈◌ : ℤ → List ℤ → Type 0
x ∈ [] = ⊥
x ∈ (y ∷ ys) = (x ≡ y) ⊎ (x ∈ ys)

-- a whole number for each term, a finite set for each set variable
pub record Valuation : Type 0 where
  pub num : Term → ℤ
  pub members : SetVar → List ℤ

-- a relation at one whole number: P, Q, R say that it is in A, in B, in C
abbrev pub AtPoint : Relation → Type 0 → Type 0 → Type 0 → Type 0
AtPoint equal P Q R = P ↔ Q
AtPoint union P Q R = R ↔ (P ⊎ Q)
AtPoint disjoint P Q R = ¬ (P × Q)
AtPoint subset P Q R = P → Q
AtPoint intersection P Q R = R ↔ (P × Q)

-- A = B; C is the union of A and B; A and B share nothing; A is a subset of B; C is the intersection of A and B
abbrev pub Relates : Relation → List ℤ → List ℤ → List ℤ → Type 0
Relates k A B C = (x : ℤ) → AtPoint k (x ∈ A) (x ∈ B) (x ∈ C)

-- the meaning of a constraint
abbrev pub Holds : Valuation → Constraint → Type 0
Holds v (member t A) = v.num t ∈ v.members A
Holds v (nonmember t A) = ¬ (v.num t ∈ v.members A)
Holds v (same t u) = v.num t ≡ v.num u
Holds v (different t u) = ¬ (v.num t ≡ v.num u)
Holds v (relation k A B C) = Relates k (v.members A) (v.members B) (v.members C)
Holds v (negation k A B C w) = ¬ Relates (denies k) (v.members A) (v.members B) (v.members C)
Holds v (exactly A es) = (x : ℤ) → x ∈ v.members A ↔ x ∈ map v.num es
Holds v (interval A i j es) = (x : ℤ) → x ∈ v.members A ↔ ((v.num i ≤ℤ x) × (x ≤ℤ v.num j))
