-- The twenty rules at their places, in the order of the search; and what is done next in a branch.
use Rattle.std.specs.Prelude.{not, List, [], ◌∷◌, ◌++◌, map, ℕ, suc, length, eqb}
use Rattle.std.proofs.Math.Option.{Option, none, some}
use Rattle.calculus.specs.Lists.{keep, first, gather, picked}
use Rattle.calculus.specs.Terms.{Term, SetVar, terms_from}
use Rattle.calculus.specs.Relations.{Rule, applies, propagation, map_rule, Operand, operand_of, Literal, propagation_rows, split_rows, negation_row}
use Rattle.calculus.specs.Relations as R
use Rattle.calculus.specs.Meaning.{Constraint, member, nonmember, same, different, relation, negation, exactly, interval}
use Rattle.calculus.specs.Branch.{Branch, root_at, root, Fact, In, Out, Same, known, assert_all}

-- a rule on facts of terms
abbrev pub Move : Type 0
Move = Rule Fact

-- a literal as a fact of a term, with a set at each operand
abbrev pub fact_of : Term → (Operand → SetVar) → Literal → Fact
fact_of h s (R.In p) = In h (s p)
fact_of h s (R.Out p) = Out h (s p)

-- a row of the tables at a term, and rows in order, each at every root
abbrev pub at : Term → (Operand → SetVar) → Rule Literal → Move
at h s r = map_rule (fact_of h s) r

abbrev pub at_roots : List Term → (Operand → SetVar) → List (Rule Literal) → List (Term × Move)
at_roots hs s rs = gather (λ (r : Rule Literal). map (λ (h : Term). (h, at h s r)) hs) rs

-- the distinct ones of a list of terms, in order
abbrev pub distinct : List Term → List Term
distinct [] = []
distinct (x ∷ xs) = x ∷ keep (λ (y : Term). not (eqb y.index x.index)) (distinct xs)

-- What a constraint offers, each move with the root concerned; hs are the roots of branch b, upward
module _ (hs : List Term) (b : Branch) where
  -- rule 19: each entry is in A
  abbrev pub entering : SetVar → List Term → List (Term × Move)
  entering A es = map (λ (e : Term). (root b e, propagation 19 [] (In e A))) es

  -- rule 20 at root h: in A, but no entry in its class: merged with each distinct class of entries, in entry order
  abbrev pub choose : SetVar → List Term → Term → Move
  choose A es h = record { rule = 20; premises = In h A ∷ []; blockers = map (λ (e : Term). Same h e ∷ []) es; alternatives = map (λ (e : Term). Same h e ∷ []) (distinct (map (root b) es)) }

  abbrev pub choosing : SetVar → List Term → List (Term × Move)
  choosing A es = map (λ (h : Term). (h, choose A es h)) hs

  abbrev pub propagations : Constraint → List (Term × Move)
  propagations (member t A) = (root b t, propagation 1 [] (In t A)) ∷ []
  propagations (nonmember t A) = (root b t, propagation 2 [] (Out t A)) ∷ []
  propagations (same t u) = (root b t, propagation 3 [] (Same t u)) ∷ []
  propagations (different t u) = (root b t, record { rule = 4; premises = Same t u ∷ []; blockers = []; alternatives = [] }) ∷ []
  propagations (relation k A B C) = at_roots hs (operand_of A B C) (propagation_rows k)
  propagations (negation k A B C w) = []
  propagations (exactly A es) = entering A es
  propagations (interval A i j es) = entering A es

  abbrev pub splits : Constraint → List (Term × Move)
  splits (member t A) = []
  splits (nonmember t A) = []
  splits (same t u) = []
  splits (different t u) = []
  splits (relation k A B C) = at_roots hs (operand_of A B C) (split_rows k)
  splits (negation k A B C w) = (root b w, at w (operand_of A B C) (negation_row k)) ∷ []
  splits (exactly A es) = choosing A es
  splits (interval A i j es) = choosing A es

-- the roots of n terms, upward
abbrev pub roots_of : ℕ → Branch → List Term
roots_of n b = keep (λ (t : Term). eqb (root_at b t.index) t.index) (terms_from 0 n)

-- a move, with the number of its constraint and the root concerned
pub record Candidate : Type 0 where
  pub constraint : ℕ
  pub concerned : Term
  pub move : Move

abbrev pub candidates : (Constraint → List (Term × Move)) → ℕ → List Constraint → List Candidate
candidates f i [] = []
candidates f i (l ∷ ls) = map (λ (m : Term × Move). record { constraint = i; concerned = m.0; move = m.1 }) (f l) ++ candidates f (suc i) ls

-- every place, in the order of the search: propagation rules, then splits
abbrev pub places : ℕ → List Constraint → Branch → List Candidate
places n ls b = candidates (propagations (roots_of n b) b) 0 ls ++ candidates (splits (roots_of n b) b) 0 ls

-- What is done next in a branch: it is a solved form, or a step is taken, with its trace record and the children left
pub data Next : Type 0 where
  solved : Next
  step : List ℕ → List Branch → Next

-- a child that conflicts is dropped
abbrev pub children : List Term → Branch → Move → List Branch
children constants b m = picked (assert_all constants b) m.alternatives

-- a trace record: rule, constraint, root concerned, children left
abbrev pub taken : List Term → Branch → Option Candidate → Next
taken constants b none = solved
taken constants b (some p) = step (p.move.rule ∷ p.constraint ∷ p.concerned.index ∷ length (children constants b p.move) ∷ []) (children constants b p.move)

-- of n terms, with these constants among them: the first place that applies
unfoldable pub next : ℕ → List Term → List Constraint → Branch → Next
next n constants ls b = taken constants b (first (λ (p : Candidate). applies (known b) p.move) (places n ls b))
