-- The code's constraint as the calculus has it.
use Rattle.std.specs.Prelude.{◌≡◌, List, [], map, ℕ, ◌≤◌, length}
use Rattle.calculus.specs.Limits.{most_sets, most_terms}
use Rattle.calculus.specs.Terms.{Term, SetVar, term, set_var}
use Rattle.calculus.specs.Relations as relations
use Rattle.calculus.specs.Meaning as calculus
use Rattle.calculus.specs.Invariants.{ConstraintIn}
use Rattle.problem.specs.Table.{constraint_of}
use Rattle.constraints.specs.declared.Relation.{Relation}
use Rattle.constraints.specs.declared.Relation.TheVariants.{Equal, Union, Disjoint, Subset, Intersection}
use Rattle.constraints.specs.declared.Negation.{Negation}
use Rattle.constraints.specs.declared.Negation.TheVariants.{Unequal}
use Rattle.constraints.specs.declared.Entries.{Entries}
use Rattle.constraints.specs.declared.Entries.TheVariants.{Written, Interval}
use Rattle.constraints.specs.declared.Constraint.{Constraint}
use Rattle.constraints.specs.declared.Constraint.TheVariants.{Member, Nonmember, Same, Different, Related, Negated, Listed}

abbrev pub relation_of : Relation → relations.Relation
relation_of Equal = relations.equal
relation_of Union = relations.union
relation_of Disjoint = relations.disjoint
relation_of Subset = relations.subset
relation_of Intersection = relations.intersection

abbrev pub negation_of : Negation → relations.Negation
negation_of Unequal = relations.unequal

abbrev pub list_of : Entries → SetVar → List Term → calculus.Constraint
list_of Written A es = calculus.exactly A es
list_of (Interval i j) A es = calculus.interval A (term i.0) (term j.0) es

abbrev pub decoded : Constraint → calculus.Constraint
decoded (Member t A) = calculus.member (term t.0) (set_var A.0)
decoded (Nonmember t A) = calculus.nonmember (term t.0) (set_var A.0)
decoded (Same t u) = calculus.same (term t.0) (term u.0)
decoded (Different t u) = calculus.different (term t.0) (term u.0)
decoded (Related k s) = calculus.relation (relation_of k) (set_var s.0.0) (set_var s.1.0) (set_var s.2.0)
decoded (Negated k s w) = calculus.negation (negation_of k) (set_var s.0.0) (set_var s.1.0) (set_var s.2.0) (term w.0)
decoded (Listed k A es) = list_of k (set_var A.0) (map term es.now)

-- the bytes of the entries of a list or an interval; others have none
abbrev pub entries_in : Constraint → List ℕ
entries_in (Listed k A es) = es.now
entries_in l = []

-- a constraint that the code handles: its terms and sets are below the limits
pub record Handled (l : Constraint) : Type 0 where
  pub in_range : ConstraintIn most_terms most_sets (decoded l)
  pub short : length (entries_in l) ≤ 255

-- constraint i of a problem, decoded
pub record Unpacked (bs : List ℕ) (i : ℕ) (l : Constraint) : Type 0 where
  pub is : constraint_of bs i ≡ decoded l
  pub handled : Handled l
