-- The places of the search by constraint, rule and position. The calculus lists them; loops go by numbers.
use Rattle.std.specs.Prelude.{◌⊎◌, Bool, true, false, cond, List, [], ◌∷◌, ◌++◌, ℕ, ◌-◌, ◌≤◌, ◌<◌, length, get_or, eqb}
use Rattle.std.proofs.Math.Option.{Option}
use Rattle.calculus.specs.Lists.{up_from, keep, first}
use Rattle.calculus.specs.Terms.{Term, SetVar, term}
use Rattle.calculus.specs.Relations.{Rule, Literal, Relation, equal, union, disjoint, subset, intersection, applies, propagation, propagation_rows, split_rows, negation_row, operand_of}
use Rattle.calculus.specs.Relations as R
use Rattle.calculus.specs.Meaning.{Constraint, member, nonmember, same, different, relation, negation, exactly, interval}
use Rattle.calculus.specs.Branch.{Branch, root_at, root, In, Out, Same, known}
use Rattle.calculus.specs.Search.{Move, at, choose, propagations, splits, roots_of}

-- ---- rules of a constraint

-- the numbers of a constraint's propagation rules: the first, and the one after the last
abbrev pub propagation_span : Constraint → ℕ × ℕ
propagation_span (member t A) = (1, 2)
propagation_span (nonmember t A) = (2, 3)
propagation_span (same t u) = (3, 4)
propagation_span (different t u) = (4, 5)
propagation_span (relation equal A B C) = (5, 7)
propagation_span (relation union A B C) = (8, 12)
propagation_span (relation disjoint A B C) = (13, 15)
propagation_span (relation subset A B C) = (15, 16)
propagation_span (relation intersection A B C) = (16, 19)
propagation_span (negation k A B C w) = (0, 0)
propagation_span (exactly A es) = (19, 20)
propagation_span (interval A i j es) = (19, 20)

-- and of its split
abbrev pub split_span : Constraint → ℕ × ℕ
split_span (member t A) = (0, 0)
split_span (nonmember t A) = (0, 0)
split_span (same t u) = (0, 0)
split_span (different t u) = (0, 0)
split_span (relation equal A B C) = (0, 0)
split_span (relation union A B C) = (12, 13)
split_span (relation disjoint A B C) = (0, 0)
split_span (relation subset A B C) = (0, 0)
split_span (relation intersection A B C) = (0, 0)
split_span (negation k A B C w) = (7, 8)
split_span (exactly A es) = (20, 21)
split_span (interval A i j es) = (20, 21)

abbrev pub span_of : Bool → Constraint → ℕ × ℕ
span_of false l = propagation_span l
span_of true l = split_span l

-- rule number j is one of them
abbrev pub InSpan : ℕ × ℕ → ℕ → Type 0
InSpan s j = (s.0 ≤ j) × (j < s.1)

-- rule number j is one of the constraint's
abbrev pub RuleOf : Constraint → ℕ → Type 0
RuleOf l j = InSpan (propagation_span l) j ⊎ InSpan (split_span l) j

-- the row of a relation's rule number j
abbrev pub first_row : Relation → ℕ
first_row equal = 5
first_row union = 8
first_row disjoint = 13
first_row subset = 15
first_row intersection = 16

abbrev pub row_of : Relation → ℕ → Rule Literal
row_of k j = get_or (propagation_rows k ++ split_rows k) (j - first_row k) (propagation 0 [] (R.In R.A))

-- ---- what rule j offers at position p, with the root concerned: p is a root, but for rule 19 the number of an entry

module _ (b : Branch) where
  abbrev pub list_move : SetVar → List Term → ℕ → ℕ → Term × Move
  list_move A es j p = cond (eqb j 19) (root b (get_or es p (term 0)), propagation 19 [] (In (get_or es p (term 0)) A)) (term p, choose [] b A es (term p))

  abbrev pub move_at : Constraint → ℕ → ℕ → Term × Move
  move_at (member t A) j p = (root b t, propagation 1 [] (In t A))
  move_at (nonmember t A) j p = (root b t, propagation 2 [] (Out t A))
  move_at (same t u) j p = (root b t, propagation 3 [] (Same t u))
  move_at (different t u) j p = (root b t, record { rule = 4; premises = Same t u ∷ []; blockers = []; alternatives = [] })
  move_at (relation k A B C) j p = (term p, at (term p) (operand_of A B C) (row_of k j))
  move_at (negation k A B C w) j p = (root b w, at w (operand_of A B C) (negation_row k))
  move_at (exactly A es) j p = list_move A es j p
  move_at (interval A x y es) j p = list_move A es j p

-- the entries of a list or of an interval
abbrev pub entries_of : Constraint → List Term
entries_of (member t A) = []
entries_of (nonmember t A) = []
entries_of (same t u) = []
entries_of (different t u) = []
entries_of (relation k A B C) = []
entries_of (negation k A B C w) = []
entries_of (exactly A es) = es
entries_of (interval A i j es) = es

-- the positions of rule j, upward: the roots of n terms, or the root of the one term, or the entries
module _ (n : ℕ) (b : Branch) where
  abbrev pub roots : List ℕ
  roots = keep (λ (h : ℕ). eqb (root_at b h) h) (up_from 0 n)

  abbrev pub positions : Constraint → ℕ → List ℕ
  positions (member t A) j = root_at b t.index ∷ []
  positions (nonmember t A) j = root_at b t.index ∷ []
  positions (same t u) j = root_at b t.index ∷ []
  positions (different t u) j = root_at b t.index ∷ []
  positions (relation k A B C) j = roots
  positions (negation k A B C w) j = root_at b w.index ∷ []
  positions (exactly A es) j = cond (eqb j 19) (up_from 0 (length es)) roots
  positions (interval A x y es) j = cond (eqb j 19) (up_from 0 (length es)) roots

-- the first position where rule j of a constraint applies
abbrev pub first_at : ℕ → Branch → Constraint → ℕ → Option ℕ
first_at n b l j = first (λ (p : ℕ). applies (known b) (move_at b l j p).1) (positions n b l j)

-- propagation rules, or splits, of n terms
abbrev pub offers : Bool → ℕ → Branch → Constraint → List (Term × Move)
offers false n b = propagations (roots_of n b) b
offers true n b = splits (roots_of n b) b
