-- Rules as data, and the tables of the rules of kinds 5 to 10.
use Rattle.std.specs.Prelude.{Bool, ◌&&◌, ◌||◌, not, List, [], ◌∷◌, ◌++◌, map, ℕ}
use Rattle.calculus.specs.Lists.{imp, all, any}

-- A rule at a place, over any type F of facts. It applies where every premise is known and of no list of blockers all facts are known. Each list of alternatives makes a child.
pub record Rule (F : Type 0) : Type 0 where
  pub rule : ℕ
  pub premises : List F
  pub blockers : List (List F)
  pub alternatives : List (List F)

module _ {F : Type 0} where
  abbrev pub applies : (F → Bool) → Rule F → Bool
  applies known s = all known s.premises && not (any (all known) s.blockers)

  -- a propagation rule (document 01: a forced rule): where the premises hold and f isn't yet known, f
  abbrev pub propagation : ℕ → List F → F → Rule F
  propagation r premises f = record { rule = r; premises = premises; blockers = (f ∷ []) ∷ []; alternatives = (f ∷ []) ∷ [] }

  -- a split that applies unless some child's facts are all known
  abbrev pub choice : ℕ → List (List F) → Rule F
  choice r gs = record { rule = r; premises = []; blockers = gs; alternatives = gs }

  -- where the premises are true some alternative is
  abbrev pub sound : (F → Bool) → Rule F → Bool
  sound true? s = imp (all true? s.premises) (any (all true?) s.alternatives)

  -- where it applies, each child has a fact that is not known
  abbrev pub adds : (F → Bool) → Rule F → Bool
  adds known s = imp (applies known s) (all (λ (g : List F). not (all known g)) s.alternatives)

module _ {F G : Type 0} where
  abbrev pub map_rule : (F → G) → Rule F → Rule G
  map_rule f s = record { rule = s.rule; premises = map f s.premises; blockers = map (map f) s.blockers; alternatives = map (map f) s.alternatives }

-- The relations between sets: kinds 5, 7, 8, 9 and 10
pub data Relation : Type 0 where
  equal union disjoint subset intersection : Relation

-- a relation at one whole number: whether it is in A, in B, in C
abbrev pub holds_at : Relation → Bool → Bool → Bool → Bool
holds_at equal a b c = imp a b && imp b a
holds_at union a b c = imp c (a || b) && imp (a || b) c
holds_at disjoint a b c = not (a && b)
holds_at subset a b c = imp a b
holds_at intersection a b c = imp c (a && b) && imp (a && b) c

-- an operand of a constraint, and a literal: in it, or out of it
pub data Operand : Type 0 where
  A B C : Operand

pub data Literal : Type 0 where
  In Out : Operand → Literal

-- a value for each operand
module _ {X : Type 0} where
  abbrev pub operand_of : X → X → X → Operand → X
  operand_of x y z A = x
  operand_of x y z B = y
  operand_of x y z C = z

-- whether a literal is known of a class that is known in and out of operands
abbrev pub lit_known : (inside outside : Operand → Bool) → Literal → Bool
lit_known i o (In p) = i p
lit_known i o (Out p) = o p

-- rules 5, 6, 8 to 11 and 13 to 18
abbrev pub propagation_rows : Relation → List (Rule Literal)
propagation_rows equal = propagation 5 (In A ∷ []) (In B) ∷ propagation 6 (In B ∷ []) (In A) ∷ []
propagation_rows union =
    propagation 8 (In A ∷ []) (In C) ∷ propagation 9 (In B ∷ []) (In C)
    ∷ propagation 10 (In C ∷ Out A ∷ []) (In B) ∷ propagation 11 (In C ∷ Out B ∷ []) (In A) ∷ []
propagation_rows disjoint = propagation 13 (In A ∷ []) (Out B) ∷ propagation 14 (In B ∷ []) (Out A) ∷ []
propagation_rows subset = propagation 15 (In A ∷ []) (In B) ∷ []
propagation_rows intersection = propagation 16 (In C ∷ []) (In A) ∷ propagation 17 (In C ∷ []) (In B) ∷ propagation 18 (In A ∷ In B ∷ []) (In C) ∷ []

-- rule 12: in C, with A and B both undecided: in A, or out of A and in B
abbrev pub split_rows : Relation → List (Rule Literal)
split_rows equal = []
split_rows union = record { rule = 12; premises = In C ∷ []; alternatives = (In A ∷ []) ∷ (Out A ∷ In B ∷ []) ∷ []; blockers = (In A ∷ []) ∷ (Out A ∷ []) ∷ (In B ∷ []) ∷ (Out B ∷ []) ∷ [] } ∷ []
split_rows disjoint = []
split_rows subset = []
split_rows intersection = []

-- the propagation rows of a relation, then its split's
abbrev pub rows : Relation → List (Rule Literal)
rows k = propagation_rows k ++ split_rows k

-- The relations that a constraint can deny: kind 6
pub data Negation : Type 0 where
  unequal : Negation

abbrev pub denies : Negation → Relation
denies unequal = equal

-- rule 7, at the constraint's witness: in A and out of B, or out of A and in B
abbrev pub negation_row : Negation → Rule Literal
negation_row unequal = choice 7 ((In A ∷ Out B ∷ []) ∷ (Out A ∷ In B ∷ []) ∷ [])
