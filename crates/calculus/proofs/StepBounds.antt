-- The bytes of a trace record: rules are at most 20, constraints and roots are the problem's, and children are at most two more than the terms.
use mathlib.Core.Path.{◌≡◌, refl, sym, subst}
use mathlib.Core.Bool.{Bool, true, false, ◌&&◌, false≢true}
use mathlib.Core.List.{List, [], ◌∷◌, map}
use Prim.Native.Nat.{ℕ, suc, ◌+◌, ◌<◌, ◌≤◌}
use native.Mathlib.Omega.{arith}
use lib.ListN.{length, length-map}
use lib.Dec.{leb}
use borrow.Author.Tests.{leb-true}
use Rattle.calculus.specs.Lists.{all, Each}
use Rattle.calculus.specs.Terms.{Term, SetVar}
use Rattle.calculus.specs.Relations.{Rule, propagation, Relation, equal, union, disjoint, subset, intersection, Negation, unequal, Operand, Literal, propagation_rows, split_rows, negation_row, operand_of}
use Rattle.calculus.specs.Meaning.{Constraint, member, nonmember, same, different, relation, negation, exactly, interval}
use Rattle.calculus.specs.Branch.{Branch, root, In, Same, assert_all}
use Rattle.calculus.specs.Search.{Move, fact_of, at, at_roots, distinct, entering, choose, choosing, propagations, splits, roots_of, Candidate, candidates, places, Next, step, children, next}
use Rattle.calculus.specs.Invariants.{ConstraintIn}
use Rattle.calculus.proofs.Bools.{and_l, and_r, each_all, each_app, each_imp, each_map, each_gather}
use Rattle.calculus.proofs.Asserting.{WellFormed, below}
use Rattle.calculus.proofs.Stepping.{IsRoot, roots_each, Found, nothing, place, found}
use Rattle.calculus.proofs.Sizes.{distinct_few, picked_few}

-- a rule's number is at most 20, and it has at most d alternatives
abbrev Sized : {F : Type 0} → ℕ → Rule F → Type 0
Sized d r = (r.rule ≤ 20) × (length r.alternatives ≤ d)

abbrev sized_test : Rule Literal → Bool
sized_test r = leb r.rule 20 && leb (length r.alternatives) 2

sized_rows : (rs : List (Rule Literal)) → all sized_test rs ≡ true → Each (Sized 2) rs
sized_rows rs e =
    each_imp (λ r. sized_test r ≡ true) (Sized 2) rs
    (λ r q. (leb-true r.rule 20 (and_l (leb r.rule 20) (leb (length r.alternatives) 2) q), leb-true (length r.alternatives) 2 (and_r (leb r.rule 20) (leb (length r.alternatives) 2) q))) (each_all sized_test rs e)

propagation_test : (k : Relation) → all sized_test (propagation_rows k) ≡ true
propagation_test equal = refl
propagation_test union = refl
propagation_test disjoint = refl
propagation_test subset = refl
propagation_test intersection = refl

split_test : (k : Relation) → all sized_test (split_rows k) ≡ true
split_test equal = refl
split_test union = refl
split_test disjoint = refl
split_test subset = refl
split_test intersection = refl

negation_sized : (k : Negation) → Sized 2 (negation_row k)
negation_sized unequal = (omega arith, omega arith)

module _ (n : ℕ) (k : List Term) (m : ℕ) (b : Branch) (F : WellFormed n k b) where
  abbrev Bounded : Term × Move → Type 0
  Bounded p = (p.0.index < n) × Sized (suc (suc n)) p.1

  at_bounded : (h : Term) (s : Operand → SetVar) (r : Rule Literal) → h.index < n → Sized 2 r → Bounded (h, at h s r)
  at_bounded h s r l q = (l, (q.0, omega (arith, q.1, length-map r.alternatives (map (fact_of h s)))))

  over_bounded : (s : Operand → SetVar) (rs : List (Rule Literal)) → Each (Sized 2) rs → Each Bounded (at_roots (roots_of n b) s rs)
  over_bounded s rs e = each_gather Bounded (λ (r : Rule Literal). map (λ (h : Term). (h, at h s r)) (roots_of n b)) rs
      (each_imp (Sized 2) (λ r. Each Bounded (map (λ (h : Term). (h, at h s r)) (roots_of n b))) rs
      (λ r q. each_map Bounded (λ (h : Term). (h, at h s r)) (roots_of n b) (each_imp (IsRoot n b) (λ h. Bounded (h, at h s r)) (roots_of n b) (λ h i. at_bounded h s r i.0 q) (roots_each n b))) e)

  root_low : (t : Term) → t.index < n → (root b t).index < n
  root_low t l = omega (arith, below n k b F t.index)

  entering_bounded : (A : SetVar) (es : List Term) → Each (λ e. e.index < n) es → Each Bounded (entering (roots_of n b) b A es)
  entering_bounded A es en = each_map Bounded (λ (e : Term). (root b e, propagation 19 [] (In e A))) es (each_imp (λ e. e.index < n) (λ e. Bounded (root b e, propagation 19 [] (In e A))) es (λ e l. (root_low e l, (omega arith, omega arith))) en)

  choosing_bounded : (A : SetVar) (es : List Term) → Each (λ e. e.index < n) es → Each Bounded (choosing (roots_of n b) b A es)
  choosing_bounded A es en =
      each_map Bounded (λ (h : Term). (h, choose (roots_of n b) b A es h)) (roots_of n b)
      (each_imp (IsRoot n b) (λ h. Bounded (h, choose (roots_of n b) b A es h)) (roots_of n b)
      (λ h i. (i.0, (omega arith, omega (arith, length-map (distinct (map (root b) es)) (λ (e : Term). Same h e ∷ []), distinct_few n (map (root b) es) (each_map (λ e. e.index < n) (root b) es (each_imp (λ e. e.index < n) (λ e. (root b e).index < n) es root_low en))))))
      (roots_each n b))

  propagations_bounded : (l : Constraint) → ConstraintIn n m l → Each Bounded (propagations (roots_of n b) b l)
  propagations_bounded (member t A) r = ((root_low t r.0, (omega arith, omega arith)), tt)
  propagations_bounded (nonmember t A) r = ((root_low t r.0, (omega arith, omega arith)), tt)
  propagations_bounded (same t u) r = ((root_low t r.0, (omega arith, omega arith)), tt)
  propagations_bounded (different t u) r = ((root_low t r.0, (omega arith, omega arith)), tt)
  propagations_bounded (relation K A B C) r = over_bounded (operand_of A B C) (propagation_rows K) (sized_rows (propagation_rows K) (propagation_test K))
  propagations_bounded (negation K A B C w) r = tt
  propagations_bounded (exactly A es) r = entering_bounded A es r.1
  propagations_bounded (interval A i j es) r = entering_bounded A es r.1

  splits_bounded : (l : Constraint) → ConstraintIn n m l → Each Bounded (splits (roots_of n b) b l)
  splits_bounded (member t A) r = tt
  splits_bounded (nonmember t A) r = tt
  splits_bounded (same t u) r = tt
  splits_bounded (different t u) r = tt
  splits_bounded (relation K A B C) r = over_bounded (operand_of A B C) (split_rows K) (sized_rows (split_rows K) (split_test K))
  splits_bounded (negation K A B C w) r = ((root_low w r.1, (at_bounded w (operand_of A B C) (negation_row K) r.1 (negation_sized K)).1), tt)
  splits_bounded (exactly A es) r = choosing_bounded A es r.1
  splits_bounded (interval A i j es) r = choosing_bounded A es r.1

  abbrev Placed : ℕ → Candidate → Type 0
  Placed last p = (p.constraint < last) × Bounded (p.concerned, p.move)

  candidates_placed : (f : Constraint → List (Term × Move)) (i last : ℕ) (ls : List Constraint) → i + length ls ≤ last → Each (λ l. Each Bounded (f l)) ls → Each (Placed last) (candidates f i ls)
  candidates_placed f i last [] q e = tt
  candidates_placed f i last (l ∷ ls) q e =
      each_app (Placed last) (map (λ (m : Term × Move). record { constraint = i; concerned = m.0; move = m.1 }) (f l)) (candidates f (suc i) ls)
      (each_map (Placed last) (λ (m : Term × Move). record { constraint = i; concerned = m.0; move = m.1 }) (f l)
      (each_imp Bounded (λ m. Placed last (record { constraint = i; concerned = m.0; move = m.1 })) (f l) (λ m z. (omega arith, z)) e.0)) (candidates_placed f (suc i) last ls (omega arith) e.1)

  module _ (ls : List Constraint) (li : Each (ConstraintIn n m) ls) where
    all_placed : Each (Placed (length ls)) (places n ls b)
    all_placed =
        each_app (Placed (length ls)) (candidates (propagations (roots_of n b) b) 0 ls) (candidates (splits (roots_of n b) b) 0 ls)
        (candidates_placed (propagations (roots_of n b) b) 0 (length ls) ls (omega arith) (each_imp (ConstraintIn n m) (λ l. Each Bounded (propagations (roots_of n b) b l)) ls propagations_bounded li))
        (candidates_placed (splits (roots_of n b) b) 0 (length ls) ls (omega arith) (each_imp (ConstraintIn n m) (λ l. Each Bounded (splits (roots_of n b) b l)) ls splits_bounded li))

    -- a step's trace record, byte by byte
    pub step_bounds : (r : List ℕ) (cs : List Branch) → next n k ls b ≡ step r cs
        → (rule constraint concerned : ℕ) × (r ≡ rule ∷ constraint ∷ concerned ∷ length cs ∷ []) × (rule ≤ 20) × (constraint < length ls) × (concerned < n) × (length cs ≤ suc (suc n))
    step_bounds r cs e = go (next n k ls b) (found n k m ls li b F) e
      where
        go : (x : Next) → Found n k m ls li b F x → x ≡ step r cs → (rule constraint concerned : ℕ) × (r ≡ rule ∷ constraint ∷ concerned ∷ length cs ∷ []) × (rule ≤ 20) × (constraint < length ls) × (concerned < n) × (length cs ≤ suc (suc n))
        go x (nothing _) q = let w : false ≡ true = cc in absurd (false≢true w)
        go x (place p a f) q =
            let t = f (Placed (length ls)) all_placed in
            let z : children k b p.move ≡ cs = cc in
            let y : (p.move.rule ∷ p.constraint ∷ p.concerned.index ∷ length (children k b p.move) ∷ []) ≡ r = cc in
            subst (λ (ds : List Branch). (rule constraint concerned : ℕ) × (r ≡ rule ∷ constraint ∷ concerned ∷ length ds ∷ []) × (rule ≤ 20) × (constraint < length ls) × (concerned < n) × (length ds ≤ suc (suc n))) z
            (p.move.rule, p.constraint, p.concerned.index, sym y, t.1.1.0, t.0, t.1.0, omega (arith, t.1.1.1, picked_few (assert_all k b) p.move.alternatives))
