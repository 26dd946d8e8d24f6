-- The children of a step by number: those there are, in order, are the step's children, and each is a sound branch.
use mathlib.Core.Path.{◌≡◌, refl, sym, ◌∙◌, ap, fun_ext, subst}
use mathlib.Core.Logic.{◌⊎◌, inl, inr, ◌≢◌}
use mathlib.Core.Option.{Option, none, some}
use mathlib.Core.List.{List, [], ◌∷◌, map}
use Prim.Native.Nat.{ℕ, ◌-◌, ◌<◌}
use native.Mathlib.Omega.{arith}
use native.Mathlib.Decide.{ℕ_discrete}
use lib.ListN.{length}
use borrow.Author.Tests.{eq-eqb, ne_eqb}
use Rattle.calculus.specs.Lists.{up_from, picked, Each, Some}
use Rattle.calculus.specs.Terms.{Term, SetVar, term}
use Rattle.calculus.specs.Relations.{Relation, equal, union, disjoint, subset, intersection, unequal, negation_row, operand_of}
use Rattle.calculus.specs.Meaning.{Constraint, member, nonmember, same, different, relation, negation, exactly, interval}
use Rattle.calculus.specs.Branch.{Branch, root, Fact, Same, assert, assert_all}
use Rattle.calculus.specs.Order.{Ranged}
use Rattle.calculus.specs.Invariants.{WellFormed, ConstraintIn}
use Rattle.calculus.specs.Search.{distinct, children}
use Rattle.calculus.proofs.Bools.{each_imp, each_map}
use Rattle.calculus.proofs.Sequences.{up_at, each_at}
use Rattle.calculus.proofs.Asserting.{below}
use Rattle.calculus.proofs.Children.{asserts_fit}
use Rattle.calculus.proofs.RuleLaws.{operand_in}
use Rattle.calculus.proofs.AddingFacts.{row_in, each_distinct}
use Rattle.calculus.proofs.WorkOrder.{some_each}
use Rattle.places.specs.Places.{propagation_span, InSpan, RuleOf, row_of, list_move, move_at, entries_of}
use Rattle.places.specs.Alternatives.{slots_of, class_child, child_of}
use Rattle.places.proofs.Offered.{relation_19}
use Rattle.places.proofs.Picking.{picked_map, picked_among, distinct_picked}

-- what holds of each number of two spans holds of a number in one of them
pub in_spans : (P : ℕ → Type 0) (s u : ℕ × ℕ) → Each P (up_from s.0 (s.1 - s.0)) → Each P (up_from u.0 (u.1 - u.0)) → (j : ℕ) → InSpan s j ⊎ InSpan u j → P j
in_spans P s u x y j (inl r) = up_at P s.0 (s.1 - s.0) x j r.0 (omega (arith, r.0, r.1))
in_spans P s u x y j (inr r) = up_at P u.0 (u.1 - u.0) y j r.0 (omega (arith, r.0, r.1))

module _ (constants : List Term) (b : Branch) where
  pub assert_one : (f : Fact) → assert_all constants b (f ∷ []) ≡ assert constants b f
  assert_one f = go (assert constants b f)
    where
      go : (o : Option Branch) → elim o [ none ↦ none | some c ↦ some c ] ≡ o
      go none = refl
      go (some c) = refl

  -- rule 20: a child for each class of entries
  classes : (es : List Term) (p : ℕ) → picked (assert_all constants b) (map (λ (e : Term). Same (term p) e ∷ []) (distinct (map (root b) es))) ≡ picked (class_child constants b es p) (up_from 0 (length es))
  classes es p =
      picked_map (assert_all constants b) (λ (e : Term). Same (term p) e ∷ []) (distinct (map (root b) es))
      ∙ ap (λ (f : Term → Option Branch). picked f (distinct (map (root b) es))) (fun_ext (λ e. assert_one (Same (term p) e)))
      ∙ distinct_picked (root b) (λ e. assert constants b (Same (term p) e)) (term 0) es

  abbrev BySlots : Constraint → ℕ → ℕ → Type 0
  BySlots l p j = children constants b (move_at b l j p).1 ≡ picked (child_of constants b l j p) (up_from 0 (slots_of l j))

  relation_slots : (k : Relation) (A B C : SetVar) (p j : ℕ) → RuleOf (relation k A B C) j → BySlots (relation k A B C) p j
  unfolding slots_of child_of
  relation_slots equal A B C p = in_spans (BySlots (relation equal A B C) p) (5, 7) (0, 0) (refl, (refl, tt)) tt
  relation_slots union A B C p = in_spans (BySlots (relation union A B C) p) (8, 12) (12, 13) (refl, (refl, (refl, (refl, tt)))) (refl, tt)
  relation_slots disjoint A B C p = in_spans (BySlots (relation disjoint A B C) p) (13, 15) (0, 0) (refl, (refl, tt)) tt
  relation_slots subset A B C p = in_spans (BySlots (relation subset A B C) p) (15, 16) (0, 0) (refl, tt) tt
  relation_slots intersection A B C p = in_spans (BySlots (relation intersection A B C) p) (16, 19) (0, 0) (refl, (refl, (refl, tt))) tt

  by_slots : (l : Constraint) (p j : ℕ) → RuleOf l j → BySlots l p j
  unfolding slots_of child_of
  by_slots (member t A) p = in_spans (BySlots (member t A) p) (1, 2) (0, 0) (refl, tt) tt
  by_slots (nonmember t A) p = in_spans (BySlots (nonmember t A) p) (2, 3) (0, 0) (refl, tt) tt
  by_slots (same t u) p = in_spans (BySlots (same t u) p) (3, 4) (0, 0) (refl, tt) tt
  by_slots (different t u) p = in_spans (BySlots (different t u) p) (4, 5) (0, 0) (refl, tt) tt
  by_slots (relation k A B C) p = relation_slots k A B C p
  by_slots (negation unequal A B C w) p = in_spans (BySlots (negation unequal A B C w) p) (0, 0) (7, 8) tt (refl, tt)
  by_slots (exactly A es) p = in_spans (BySlots (exactly A es) p) (19, 20) (20, 21) (refl, tt) (classes es p, tt)
  by_slots (interval A x y es) p = in_spans (BySlots (interval A x y es) p) (19, 20) (20, 21) (refl, tt) (classes es p, tt)

-- the children of a step are those of its numbers, in order
pub children_slots : (constants : List Term) (b : Branch) (l : Constraint) (j p : ℕ) → RuleOf l j → children constants b (move_at b l j p).1 ≡ picked (child_of constants b l j p) (up_from 0 (slots_of l j))
children_slots constants b l j p r = by_slots constants b l p j r

-- a child that a number has is one of them
pub child_among : (constants : List Term) (b : Branch) (l : Constraint) (j p c : ℕ) (d : Branch) → RuleOf l j → c < slots_of l j → child_of constants b l j p c ≡ some d → Some (λ (x : Branch). x ≡ d) (children constants b (move_at b l j p).1)
child_among constants b l j p c d r h e = subst (Some (λ (x : Branch). x ≡ d)) (sym (children_slots constants b l j p r)) (picked_among (child_of constants b l j p) c d e 0 (slots_of l j) (omega arith) (omega arith))

-- ---- each child is a sound branch

module _ (n m : ℕ) where
  abbrev InRange : List (List Fact) → Type 0
  InRange gs = Each (λ g. Each (Ranged n m) g) gs

  module _ (constants : List Term) (b : Branch) (F : WellFormed n constants b) where
    classes_in : (es : List Term) (p : ℕ) → Each (λ e. e.index < n) es → p < n → InRange (map (λ (e : Term). Same (term p) e ∷ []) (distinct (map (root b) es)))
    classes_in es p i l = each_map (λ g. Each (Ranged n m) g) (λ (e : Term). Same (term p) e ∷ []) (distinct (map (root b) es))
        (each_distinct (λ e. Ranged n m (Same (term p) e) × Unit {0}) (map (root b) es)
        (each_map (λ e. Ranged n m (Same (term p) e) × Unit {0}) (root b) es
        (each_imp (λ e. e.index < n) (λ e. Ranged n m (Same (term p) (root b e)) × Unit {0}) es (λ e q. ((l, omega (arith, below n constants b F e.index)), tt)) i)))

    list_in : (A : SetVar) (es : List Term) (j p : ℕ) → A.index < m → Each (λ e. e.index < n) es → (j ≡ 19 → p < length es) → (j ≢ 19 → p < n) → InRange (list_move b A es j p).1.alternatives
    list_in A es j p a i x y = go (ℕ_discrete j 19)
      where
        go : Dec (j ≡ 19) → InRange (list_move b A es j p).1.alternatives
        go (yes e) = rw (eq-eqb j 19 e) (((each_at (λ e. e.index < n) es (term 0) i p (x e), a), tt), tt)
        go (no e) = rw (ne_eqb j 19 e) (classes_in es p i (y e))

    -- the facts of a constraint's alternatives are in range
    alternatives_in : (l : Constraint) (j p : ℕ) → ConstraintIn n m l → RuleOf l j → (j ≡ 19 → p < length (entries_of l)) → (j ≢ 19 → p < n) → InRange (move_at b l j p).1.alternatives
    alternatives_in (member t A) j p c r x y = ((c, tt), tt)
    alternatives_in (nonmember t A) j p c r x y = ((c, tt), tt)
    alternatives_in (same t u) j p c r x y = ((c, tt), tt)
    alternatives_in (different t u) j p c r x y = tt
    alternatives_in (relation k A B C) j p c r x y = row_in (term p) (operand_of A B C) (y (relation_19 k A B C j r)) (operand_in (λ (X : SetVar). X.index < m) c) (row_of k j)
    alternatives_in (negation k A B C w) j p c r x y = row_in w (operand_of A B C) c.1 (operand_in (λ (X : SetVar). X.index < m) c.0) (negation_row k)
    alternatives_in (exactly A es) j p c r x y = list_in A es j p c.0 c.1 x y
    alternatives_in (interval A u v es) j p c r x y = list_in A es j p c.0 c.1 x y

    -- what is asserted in range keeps the branch sound
    picked_fit : (gs : List (List Fact)) → InRange gs → Each (WellFormed n constants) (picked (assert_all constants b) gs)
    picked_fit [] i = tt
    picked_fit (g ∷ gs) i = go (assert_all constants b g) refl (picked_fit gs i.1)
      where
        go : (o : Option Branch) → assert_all constants b g ≡ o → Each (WellFormed n constants) (picked (assert_all constants b) gs) → Each (WellFormed n constants) (picked (assert_all constants b) (g ∷ gs))
        go none u ih = rw (u, picked) ih
        go (some y) u ih = rw (u, picked) ((asserts_fit n constants m g i.0 b F y u).0, ih)

-- a child of a sound branch is sound
pub child_fit : (n m : ℕ) (constants : List Term) (b : Branch) (l : Constraint) (j p c : ℕ) (d : Branch) → WellFormed n constants b → ConstraintIn n m l → RuleOf l j → (j ≡ 19 → p < length (entries_of l)) → (¬ (j ≡ 19) → p < n) → c < slots_of l j → child_of constants b l j p c ≡ some d → WellFormed n constants d
child_fit n m constants b l j p c d F i r x y h e =
    some_each (WellFormed n constants) d (children constants b (move_at b l j p).1) (picked_fit n m constants b F (move_at b l j p).1.alternatives (alternatives_in n m constants b F l j p i r x y)) (child_among constants b l j p c d r h e)

-- a propagation rule has one number
abbrev Single : Constraint → ℕ → Type 0
Single l j = slots_of l j ≡ 1

pub propagation_slots : (l : Constraint) (j : ℕ) → InSpan (propagation_span l) j → slots_of l j ≡ 1
unfolding slots_of
propagation_slots (member t A) j r = up_at (Single (member t A)) 1 1 (refl, tt) j r.0 r.1
propagation_slots (nonmember t A) j r = up_at (Single (nonmember t A)) 2 1 (refl, tt) j r.0 r.1
propagation_slots (same t u) j r = up_at (Single (same t u)) 3 1 (refl, tt) j r.0 r.1
propagation_slots (different t u) j r = up_at (Single (different t u)) 4 1 (refl, tt) j r.0 r.1
propagation_slots (relation equal A B C) j r = up_at (Single (relation equal A B C)) 5 2 (refl, (refl, tt)) j r.0 r.1
propagation_slots (relation union A B C) j r = up_at (Single (relation union A B C)) 8 4 (refl, (refl, (refl, (refl, tt)))) j r.0 r.1
propagation_slots (relation disjoint A B C) j r = up_at (Single (relation disjoint A B C)) 13 2 (refl, (refl, tt)) j r.0 r.1
propagation_slots (relation subset A B C) j r = up_at (Single (relation subset A B C)) 15 1 (refl, tt) j r.0 r.1
propagation_slots (relation intersection A B C) j r = up_at (Single (relation intersection A B C)) 16 3 (refl, (refl, (refl, tt))) j r.0 r.1
propagation_slots (negation k A B C w) j r = absurd (omega (arith, r.1))
propagation_slots (exactly A es) j r = up_at (Single (exactly A es)) 19 1 (refl, tt) j r.0 r.1
propagation_slots (interval A x y es) j r = up_at (Single (interval A x y es)) 19 1 (refl, tt) j r.0 r.1

-- the move of rule j says so
module _ (b : Branch) (p : ℕ) where
  abbrev Says : Constraint → ℕ → Type 0
  Says l j = (move_at b l j p).1.rule ≡ j

  pub move_rule : (l : Constraint) (j : ℕ) → RuleOf l j → (move_at b l j p).1.rule ≡ j
  move_rule (member t A) = in_spans (Says (member t A)) (1, 2) (0, 0) (refl, tt) tt
  move_rule (nonmember t A) = in_spans (Says (nonmember t A)) (2, 3) (0, 0) (refl, tt) tt
  move_rule (same t u) = in_spans (Says (same t u)) (3, 4) (0, 0) (refl, tt) tt
  move_rule (different t u) = in_spans (Says (different t u)) (4, 5) (0, 0) (refl, tt) tt
  move_rule (relation equal A B C) = in_spans (Says (relation equal A B C)) (5, 7) (0, 0) (refl, (refl, tt)) tt
  move_rule (relation union A B C) = in_spans (Says (relation union A B C)) (8, 12) (12, 13) (refl, (refl, (refl, (refl, tt)))) (refl, tt)
  move_rule (relation disjoint A B C) = in_spans (Says (relation disjoint A B C)) (13, 15) (0, 0) (refl, (refl, tt)) tt
  move_rule (relation subset A B C) = in_spans (Says (relation subset A B C)) (15, 16) (0, 0) (refl, tt) tt
  move_rule (relation intersection A B C) = in_spans (Says (relation intersection A B C)) (16, 19) (0, 0) (refl, (refl, (refl, tt))) tt
  move_rule (negation unequal A B C w) = in_spans (Says (negation unequal A B C w)) (0, 0) (7, 8) tt (refl, tt)
  move_rule (exactly A es) = in_spans (Says (exactly A es)) (19, 20) (20, 21) (refl, tt) (refl, tt)
  move_rule (interval A x y es) = in_spans (Says (interval A x y es)) (19, 20) (20, 21) (refl, tt) (refl, tt)
