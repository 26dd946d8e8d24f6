-- Where a move applies, each child adds something; and its facts are in range.
use mathlib.Core.Path.{◌≡◌, refl, ◌∙◌, ap}
use mathlib.Core.Bool.{Bool, true, false, ◌&&◌, ◌||◌, not}
use mathlib.Core.List.{List, [], ◌∷◌, map}
use Prim.Native.Nat.{ℕ, ◌<◌}
use native.Mathlib.Omega.{arith}
use lib.Dec.{eqb}
use Rattle.calculus.specs.Terms.{Term, SetVar}
use Rattle.calculus.specs.Lists.{imp, all, any, keep, Each}
use Rattle.calculus.specs.Relations.{Rule, applies, propagation, choice, sound, adds, map_rule, Relation, holds_at, Operand, Literal, propagation_rows, split_rows, negation_row, Negation, unequal, denies, lit_known, rows, operand_of}
use Rattle.calculus.specs.Relations as R
use Rattle.calculus.specs.Meaning.{Constraint, member, nonmember, same, different, relation, negation, exactly, interval}
use Rattle.calculus.specs.Branch.{Branch, root_at, root, Fact, In, Out, Same, known}
use Rattle.calculus.specs.Search.{Move, fact_of, at, at_roots, distinct, entering, choose, choosing, propagations, splits}
use Rattle.calculus.specs.Invariants.{ConstraintIn}
use Rattle.calculus.proofs.Bools.{and_r, or_none_l, or_none_r, imp_i, not_t, each_all, all_each, each_left, each_right, each_is_all, each_imp, each_map, map_each}
use Rattle.calculus.proofs.Tables.{rows_add, negation_add}
use Rattle.calculus.proofs.Asserting.{WellFormed, below, still, Ranged}
use Rattle.calculus.proofs.RuleLaws.{operand_in, adds_map, known_fact, over_each, each_swap}

-- a literal as a fact of a term in range
pub fact_in : {n m : ℕ} (h : Term) (s : Operand → SetVar) → h.index < n → ((o : Operand) → (s o).index < m) → (x : Literal) → Ranged n m (fact_of h s x)
fact_in h s l q (R.In o) = (l, q o)
fact_in h s l q (R.Out o) = (l, q o)

-- a row of the tables at a term
pub row_in : {n m : ℕ} (h : Term) (s : Operand → SetVar) → h.index < n → ((o : Operand) → (s o).index < m) → (r : Rule Literal) → Each (λ g. Each (Ranged n m) g) (at h s r).alternatives
row_in {n} {m} h s l q r = each_map (λ g. Each (Ranged n m) g) (map (fact_of h s)) r.alternatives
    (each_is_all (λ g. Each (Ranged n m) (map (fact_of h s) g)) (λ g. each_map (Ranged n m) (fact_of h s) g (each_is_all (λ x. Ranged n m (fact_of h s x)) (fact_in h s l q) g)) r.alternatives)

-- keeping and telling apart lose nothing
module _ {X : Type 0} (P : X → Type 0) (p : X → Bool) where
  pub each_keep : (l : List X) → Each P l → Each P (keep p l)
  each_keep [] e = tt
  each_keep (x ∷ xs) e = go (p x) refl (each_keep xs e.1)
    where
      go : (t : Bool) → p x ≡ t → Each P (keep p xs) → Each P (keep p (x ∷ xs))
      go true q ih = rw q (e.0, ih)
      go false q ih = rw q ih

pub each_distinct : (P : Term → Type 0) (l : List Term) → Each P l → Each P (distinct l)
each_distinct P [] e = tt
each_distinct P (x ∷ xs) e = (e.0, each_keep P (λ (y : Term). not (eqb y.index x.index)) (distinct xs) (each_distinct P xs e.1))

any_none : {X : Type 0} (p : X → Bool) (l : List X) → any p l ≡ false → Each (λ x. p x ≡ false) l
any_none p [] e = tt
any_none p (x ∷ xs) e = (or_none_l (p x) (any p xs) e, any_none p xs (or_none_r (p x) (any p xs) e))

module _ (n : ℕ) (k : List Term) (m : ℕ) (b : Branch) (F : WellFormed n k b) where
  abbrev pub Tame : Move → Type 0
  Tame mv = (adds (known b) mv ≡ true) × Each (λ g. Each (Ranged n m) g) mv.alternatives

  at_tame : (h : Term) (s : Operand → SetVar) → h.index < n → ((p : Operand) → (s p).index < m) → (r : Rule Literal)
      → adds (lit_known (λ p. known b (In h (s p))) (λ p. known b (Out h (s p)))) r ≡ true → Tame (at h s r)
  at_tame h s l q r e = (
    adds_map (fact_of h s) (known b) r ∙ ap (λ (f : Literal → Bool). adds f r) (known_fact b h s) ∙ e,
    row_in h s l q r,
  )

  rows_tame : (rs : List (Rule Literal)) → ((i o : Operand → Bool) → all (adds (lit_known i o)) rs ≡ true) → (A B C : SetVar) → (A.index < m) × (B.index < m) × (C.index < m) → (h : Term) → Each (λ r. h.index < n → Tame (at h (operand_of A B C) r)) rs
  rows_tame rs add A B C l h =
      each_imp (λ r. adds (lit_known (λ p. known b (In h (operand_of A B C p))) (λ p. known b (Out h (operand_of A B C p)))) r ≡ true) (λ r. h.index < n → Tame (at h (operand_of A B C) r)) rs
      (λ r e q. at_tame h (operand_of A B C) q (operand_in (λ (X : SetVar). X.index < m) l) r e)
      (each_all (adds (lit_known (λ p. known b (In h (operand_of A B C p))) (λ p. known b (Out h (operand_of A B C p))))) rs
      (add (λ p. known b (In h (operand_of A B C p))) (λ p. known b (Out h (operand_of A B C p)))))

  propagation_adds : (rule : ℕ) (premises : List Fact) (f : Fact) → adds (known b) (propagation rule premises f) ≡ true
  propagation_adds rule premises f = go (all (known b) premises) (known b f)
    where
      go : (x y : Bool) → imp (x && not ((y && true) || false)) (not (y && true) && true) ≡ true
      go true true = refl
      go true false = refl
      go false y = refl

  module _ (hs : List Term) (hn : Each (λ h. h.index < n) hs) where
    over_tame : (A B C : SetVar) (rs : List (Rule Literal)) → ((h : Term) → Each (λ r. h.index < n → Tame (at h (operand_of A B C) r)) rs) → Each (λ (p : Term × Move). Tame p.1) (at_roots hs (operand_of A B C) rs)
    over_tame A B C rs f =
        over_each Tame (operand_of A B C) hs rs
        (each_imp (λ r. (h : Term) → h.index < n → Tame (at h (operand_of A B C) r)) (λ r. Each (λ h. Tame (at h (operand_of A B C) r)) hs) rs
        (λ r g. each_imp (λ h. h.index < n) (λ h. Tame (at h (operand_of A B C) r)) hs g hn)
        (each_swap (λ h r. h.index < n → Tame (at h (operand_of A B C) r)) rs f))

    entering_tame : (A : SetVar) (es : List Term) → A.index < m → Each (λ e. e.index < n) es → Each (λ (p : Term × Move). Tame p.1) (entering hs b A es)
    entering_tame A es l en = each_map (λ (p : Term × Move). Tame p.1) (λ (e : Term). (root b e, propagation 19 [] (In e A))) es
        (each_imp (λ e. e.index < n) (λ e. Tame (propagation 19 [] (In e A))) es (λ e q. (propagation_adds 19 [] (In e A), (((q, l), tt), tt))) en)

    -- rule 20: no entry's root is the root
    choose_adds : (A : SetVar) (es : List Term) (h : Term) → adds (known b) (choose hs b A es h) ≡ true
    choose_adds A es h =
        imp_i (applies (known b) (choose hs b A es h)) (all (λ (g : List Fact). not (all (known b) g)) (map (λ (e : Term). Same h e ∷ []) (distinct (map (root b) es))))
        (λ ap?. all_each (λ (g : List Fact). not (all (known b) g)) (map (λ (e : Term). Same h e ∷ []) (distinct (map (root b) es)))
        (each_map (λ g. not (all (known b) g) ≡ true) (λ (e : Term). Same h e ∷ []) (distinct (map (root b) es))
        (each_distinct (λ e. not (eqb (root_at b h.index) (root_at b e.index) && true) ≡ true) (map (root b) es)
        (each_map (λ e. not (eqb (root_at b h.index) (root_at b e.index) && true) ≡ true) (root b) es
        (each_imp (λ e. (eqb (root_at b h.index) (root_at b e.index) && true) ≡ false) (λ e. not (eqb (root_at b h.index) (root_at b (root_at b e.index)) && true) ≡ true) es
        (λ e q. rw (still n k b F e.index, q))
        (map_each (λ (g : List Fact). all (known b) g ≡ false) (λ (e : Term). Same h e ∷ []) es
        (any_none (all (known b)) (map (λ (e : Term). Same h e ∷ []) es)
        (not_t (any (all (known b)) (map (λ (e : Term). Same h e ∷ []) es)) (and_r (known b (In h A) && true) (not (any (all (known b)) (map (λ (e : Term). Same h e ∷ []) es))) ap?)))))))))

    choosing_tame : (A : SetVar) (es : List Term) → Each (λ e. e.index < n) es → Each (λ (p : Term × Move). Tame p.1) (choosing hs b A es)
    choosing_tame A es en = each_map (λ (p : Term × Move). Tame p.1) (λ (h : Term). (h, choose hs b A es h)) hs
        (each_imp (λ h. h.index < n) (λ h. Tame (choose hs b A es h)) hs
        (λ h q. (
          choose_adds A es h,
          each_map (λ g. Each (Ranged n m) g) (λ (e : Term). Same h e ∷ []) (distinct (map (root b) es))
              (each_distinct (λ e. ((h.index < n) × (e.index < n)) × Unit {0}) (map (root b) es)
              (each_map (λ e. ((h.index < n) × (e.index < n)) × Unit {0}) (root b) es
              (each_imp (λ e. e.index < n) (λ e. ((h.index < n) × (root_at b e.index < n)) × Unit {0}) es (λ e r. ((q, omega (arith, below n k b F e.index)), tt)) en))),
        )) hn)

    pub propagations_tame : (l : Constraint) → ConstraintIn n m l → Each (λ (p : Term × Move). Tame p.1) (propagations hs b l)
    propagations_tame (member t A) r = ((propagation_adds 1 [] (In t A), ((r, tt), tt)), tt)
    propagations_tame (nonmember t A) r = ((propagation_adds 2 [] (Out t A), ((r, tt), tt)), tt)
    propagations_tame (same t u) r = ((propagation_adds 3 [] (Same t u), ((r, tt), tt)), tt)
    propagations_tame (different t u) r = ((imp_i (applies (known b) (record { rule = 4; premises = Same t u ∷ []; blockers = []; alternatives = [] })) true (λ _. refl), tt), tt)
    propagations_tame (relation K A B C) r = over_tame A B C (propagation_rows K) (λ h. each_left (λ r. h.index < n → Tame (at h (operand_of A B C) r)) (propagation_rows K) (split_rows K) (rows_tame (rows K) (λ i o. rows_add i o K) A B C r h))
    propagations_tame (negation K A B C w) r = tt
    propagations_tame (exactly A es) r = entering_tame A es r.0 r.1
    propagations_tame (interval A i j es) r = entering_tame A es r.0 r.1

    pub splits_tame : (l : Constraint) → ConstraintIn n m l → Each (λ (p : Term × Move). Tame p.1) (splits hs b l)
    splits_tame (member t A) r = tt
    splits_tame (nonmember t A) r = tt
    splits_tame (same t u) r = tt
    splits_tame (different t u) r = tt
    splits_tame (relation K A B C) r = over_tame A B C (split_rows K) (λ h. each_right (λ r. h.index < n → Tame (at h (operand_of A B C) r)) (propagation_rows K) (split_rows K) (rows_tame (rows K) (λ i o. rows_add i o K) A B C r h))
    splits_tame (negation K A B C w) r = ((rows_tame (negation_row K ∷ []) (λ i o. negation_add i o K) A B C r.0 w).0 r.1, tt)
    splits_tame (exactly A es) r = choosing_tame A es r.1
    splits_tame (interval A i j es) r = choosing_tame A es r.1
