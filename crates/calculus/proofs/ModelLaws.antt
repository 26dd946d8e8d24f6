-- In a branch where no move applies, the model satisfies the branch and every constraint.
use mathlib.Core.Path.{◌≡◌, refl, sym, ◌∙◌, ap, subst}
use mathlib.Core.Logic.{◌⊎◌, inl, inr}
use mathlib.Core.Bool.{Bool, true, false, ◌&&◌, ◌||◌, not, true≢false, false≢true}
use mathlib.Core.List.{List, [], ◌∷◌, map}
use Prim.Native.Nat.{ℕ, ◌<◌}
use native.Mathlib.Omega.{arith}
use lib.Dec.{eqb}
use lib.IntN.{ℤ}
use borrow.Author.Tests.{eqb-true, eq-eqb}
use Rattle.calculus.specs.Terms.{Term, SetVar, term}
use Rattle.calculus.specs.Lists.{all, any, keep, Each}
use Rattle.calculus.specs.Relations.{Rule, applies, propagation, Relation, holds_at, Operand, Literal, propagation_rows, split_rows, negation_row, lit_known, rows, operand_of}
use Rattle.calculus.specs.Meaning.{Constraint, member, nonmember, same, different, relation, negation, exactly, interval, ◌∈◌, Valuation}
use Rattle.calculus.specs.Branch.{Branch, root_at, root, inside, Fact, In, Out, Same, known}
use Rattle.calculus.specs.Search.{Move, fact_of, at, at_roots, entering, choose, choosing, propagations, splits, roots_of}
use Rattle.calculus.specs.Invariants.{ConstraintIn}
use Rattle.calculus.proofs.BranchForms.{AgreesBranch}
use Rattle.calculus.proofs.Bools.{and_l, and_i, or_cases, clash, test, same_test, not_f, all_each, each_app, each_imp, map_each, gather_of_each}
use Rattle.calculus.proofs.Tables.{rows_full, negation_full, relation_none}
use Rattle.calculus.proofs.Truth.{has, has_in, in_has, test_relates}
use Rattle.calculus.proofs.Asserting.{WellFormed, below, still}
use Rattle.calculus.proofs.RuleLaws.{applies_map, known_fact, Lists, Meant}
use Rattle.calculus.proofs.Stepping.{IsRoot, roots_each, roots_at}
use Rattle.calculus.proofs.Sequences.{keep_each, keep_at, from_image, image_of}

module _ (val : Term → ℤ) where
  -- a value for each root; a set holds the values of the classes known to be in it
  abbrev pub model_values : ℕ → Branch → Valuation
  model_values n b = record { num = λ t. val (root b t); members = λ A. map val (keep (λ h. inside b h A) (roots_of n b)) }

  module _ (n : ℕ) (k : List Term) (b : Branch) (F : WellFormed n k b) (inj : (i j : Term) → IsRoot n b i → IsRoot n b j → val i ≡ val j → i ≡ j) where
    abbrev w : Valuation
    w = model_values n b

    is_root : (t : Term) → t.index < n → IsRoot n b (root b t)
    is_root t l = (omega (arith, below n k b F t.index), still n k b F t.index)

    -- a member is the value of a root that is in the set
    from_member : (A : SetVar) (x : ℤ) → x ∈ w.members A → (h : Term) × (IsRoot n b h × (inside b h A ≡ true)) × (x ≡ val h)
    from_member A x m = from_image (λ h. IsRoot n b h × (inside b h A ≡ true)) val (keep (λ h. inside b h A) (roots_of n b)) x (keep_each (IsRoot n b) (λ h. inside b h A) (roots_of n b) (roots_each n b)) m

    to_member : (A : SetVar) (h : Term) → IsRoot n b h → inside b h A ≡ true → val h ∈ w.members A
    to_member A h i e =
        roots_at n b (λ h. inside b h A ≡ true → val h ∈ w.members A)
        (keep_at (λ h. val h ∈ w.members A) (λ h. inside b h A) (roots_of n b) (image_of val (keep (λ h. inside b h A) (roots_of n b)))) h i e

    has_root : (A : SetVar) (h : Term) → IsRoot n b h → has (w.members A) (val h) ≡ inside b h A
    has_root A h i = same_test (has (w.members A) (val h)) (inside b h A)
        (λ e. let z = from_member A (val h) (has_in (w.members A) (val h) e) in
        ap (λ (j : Term). inside b j A) (inj h z.0 i z.1.0 z.2) ∙ z.1.1)
        (λ e. in_has (w.members A) (val h) (to_member A h i e))

    has_term : (t : Term) (A : SetVar) → t.index < n → has (w.members A) (w.num t) ≡ known b (In t A)
    has_term t A l = has_root A (root b t) (is_root t l)

    out_term : (t : Term) (A : SetVar) → t.index < n → known b (Out t A) ≡ true → has (w.members A) (w.num t) ≡ false
    out_term t A l e = has_term t A l ∙ (go (test (known b (In t A))))
      where
        go : (known b (In t A) ≡ true) ⊎ (known b (In t A) ≡ false) → known b (In t A) ≡ false
        go (inl p) = clash (and_i p e) (F.clean (root_at b t.index) A)
        go (inr p) = p

    -- its joins and facts are true
    pub model_agrees : AgreesBranch n w b
    model_agrees = record {
      merges = λ t _. ap (λ (x : ℕ). val (term x)) (sym (still n k b F t));
      insides = λ t A l e. has_in (w.members A) (w.num (term t)) (has_term (term t) A l ∙ e);
      outsides = λ t A l e q. clash (in_has (w.members A) (w.num (term t)) q) (out_term (term t) A l e);
    }

    -- ---- no move applies

    abbrev Idle : Move → Type 0
    Idle mv = applies (known b) mv ≡ false

    -- a propagation rule that needs nothing: its conclusion is known
    propagation_known : (rule : ℕ) (f : Fact) → Idle (propagation rule [] f) → known b f ≡ true
    propagation_known rule f = go (known b f)
      where
        go : (x : Bool) → (true && not ((x && true) || false)) ≡ false → x ≡ true
        go true e = refl
        go false e = sym e

    at_idle : (h : Term) (s : Operand → SetVar) (r : Rule Literal) → Idle (at h s r) → applies (lit_known (λ p. known b (In h (s p))) (λ p. known b (Out h (s p)))) r ≡ false
    at_idle h s r e = ap (λ (q : Literal → Bool). applies q r) (sym (known_fact b h s)) ∙ sym (applies_map (fact_of h s) (known b) r) ∙ e

    over_idle : (s : Operand → SetVar) (rs : List (Rule Literal)) → Each (λ (p : Term × Move). Idle p.1) (at_roots (roots_of n b) s rs) → (h : Term) → IsRoot n b h
        → Each (λ r. not (applies (lit_known (λ p. known b (In h (s p))) (λ p. known b (Out h (s p)))) r) ≡ true) rs
    over_idle s rs e h i =
        each_imp (λ r. Each (λ (p : Term × Move). Idle p.1) (map (λ (h : Term). (h, at h s r)) (roots_of n b))) (λ r. not (applies (lit_known (λ p. known b (In h (s p))) (λ p. known b (Out h (s p)))) r) ≡ true) rs
        (λ r q. ap not (at_idle h s r (roots_at n b (λ h. Idle (at h s r)) (map_each (λ (p : Term × Move). Idle p.1) (λ (h : Term). (h, at h s r)) (roots_of n b) q) h i)))
        (gather_of_each (λ (p : Term × Move). Idle p.1) (λ (r : Rule Literal). map (λ (h : Term). (h, at h s r)) (roots_of n b)) rs e)

    clean_at : (h : Term) (s : Operand → SetVar) → (p : Operand) → (known b (In h (s p)) && known b (Out h (s p))) ≡ false
    clean_at h s p = F.clean (root_at b h.index) (s p)

    -- the relation holds at a root
    relation_root : (K : Relation) (A B C : SetVar) → Each (λ (p : Term × Move). Idle p.1) (at_roots (roots_of n b) (operand_of A B C) (propagation_rows K)) → Each (λ (p : Term × Move). Idle p.1) (at_roots (roots_of n b) (operand_of A B C) (split_rows K))
        → (h : Term) → IsRoot n b h → holds_at K (has (w.members A) (val h)) (has (w.members B) (val h)) (has (w.members C) (val h)) ≡ true
    relation_root K A B C f s h i =
        let t = rows_full (λ p. known b (In h (operand_of A B C p))) (λ p. known b (Out h (operand_of A B C p))) (clean_at h (operand_of A B C)) K
        (all_each (λ r. not (applies (lit_known (λ p. known b (In h (operand_of A B C p))) (λ p. known b (Out h (operand_of A B C p)))) r)) (rows K)
        (each_app (λ r. not (applies (lit_known (λ p. known b (In h (operand_of A B C p))) (λ p. known b (Out h (operand_of A B C p)))) r) ≡ true) (propagation_rows K) (split_rows K)
        (over_idle (operand_of A B C) (propagation_rows K) f h i) (over_idle (operand_of A B C) (split_rows K) s h i))) in
        rw (has_root A h i, has_root B h i, has_root C h i) (rw i.1 at t)

    -- and at a value of no root nothing is in any set
    relation_all : (K : Relation) (A B C : SetVar) → ((h : Term) → IsRoot n b h → holds_at K (has (w.members A) (val h)) (has (w.members B) (val h)) (has (w.members C) (val h)) ≡ true)
        → (x : ℤ) → holds_at K (has (w.members A) x) (has (w.members B) x) (has (w.members C) x) ≡ true
    relation_all K A B C f x = go (test (has (w.members A) x)) (test (has (w.members B) x)) (test (has (w.members C) x))
      where
        at_x : (D : SetVar) → has (w.members D) x ≡ true → holds_at K (has (w.members A) x) (has (w.members B) x) (has (w.members C) x) ≡ true
        at_x D e = let z = from_member D x (has_in (w.members D) x e) in
            subst (λ (y : ℤ). holds_at K (has (w.members A) y) (has (w.members B) y) (has (w.members C) y) ≡ true) (sym z.2) (f z.0 z.1.0)

        go : (has (w.members A) x ≡ true) ⊎ (has (w.members A) x ≡ false) → (has (w.members B) x ≡ true) ⊎ (has (w.members B) x ≡ false) → (has (w.members C) x ≡ true) ⊎ (has (w.members C) x ≡ false)
            → holds_at K (has (w.members A) x) (has (w.members B) x) (has (w.members C) x) ≡ true
        go (inl a) q r = at_x A a
        go (inr a) (inl q) r = at_x B q
        go (inr a) (inr q) (inl r) = at_x C r
        go (inr a) (inr q) (inr r) = rw (a, q, r) (relation_none K)

    -- rules 19 and 20
    known_entry : (h : Term) (es : List Term) → any (all (known b)) (map (λ (e : Term). Same h e ∷ []) es) ≡ true → val (root b h) ∈ map w.num es
    known_entry h [] e = absurd (false≢true e)
    known_entry h (x ∷ xs) e = go (or_cases (eqb (root_at b h.index) (root_at b x.index) && true) (any (all (known b)) (map (λ (e : Term). Same h e ∷ []) xs)) e) (known_entry h xs)
      where
        go : ((eqb (root_at b h.index) (root_at b x.index) && true) ≡ true) ⊎ (any (all (known b)) (map (λ (e : Term). Same h e ∷ []) xs) ≡ true) → (any (all (known b)) (map (λ (e : Term). Same h e ∷ []) xs) ≡ true → val (root b h) ∈ map w.num xs) → val (root b h) ∈ map w.num (x ∷ xs)
        go (inl q) ih = inl (ap (λ (y : ℕ). val (term y)) (eqb-true (root_at b h.index) (root_at b x.index) (and_l (eqb (root_at b h.index) (root_at b x.index)) true q)))
        go (inr q) ih = inr (ih q)

    choose_idle : (A : SetVar) (es : List Term) (h : Term) → IsRoot n b h → inside b h A ≡ true → Idle (choose (roots_of n b) b A es h) → val h ∈ map w.num es
    choose_idle A es h i e q =
        let k : known b (In h A) ≡ true = ap (λ (j : ℕ). inside b (term j) A) i.1 ∙ e in
        let z : any (all (known b)) (map (λ (e : Term). Same h e ∷ []) es) ≡ true = not_f (any (all (known b)) (map (λ (e : Term). Same h e ∷ []) es)) (rw k at q) in
        subst (λ (j : ℕ). val (term j) ∈ map w.num es) i.1 (known_entry h es z)

    entries_within : (A : SetVar) (es : List Term) → Each (λ e. e.index < n) es → Each (λ (p : Term × Move). Idle p.1) (entering (roots_of n b) b A es) → (x : ℤ) → x ∈ map w.num es → x ∈ w.members A
    entries_within A [] l q x m = absurd m
    entries_within A (e ∷ es) l q x (inl z) = subst (λ (y : ℤ). y ∈ w.members A) (sym z) (to_member A (root b e) (is_root e l.0) (propagation_known 19 (In e A) q.0))
    entries_within A (e ∷ es) l q x (inr z) = entries_within A es l.1 q.1 x z

    exact : (A : SetVar) (es : List Term) → Each (λ e. e.index < n) es → Each (λ (p : Term × Move). Idle p.1) (entering (roots_of n b) b A es) → Each (λ (p : Term × Move). Idle p.1) (choosing (roots_of n b) b A es) → Lists w A es
    exact A es l f s x = (
      λ m. let z = from_member A x m in
          subst (λ (y : ℤ). y ∈ map w.num es) (sym z.2)
          (choose_idle A es z.0 z.1.0 z.1.1 (roots_at n b (λ h. Idle (choose (roots_of n b) b A es h)) (map_each (λ (p : Term × Move). Idle p.1) (λ (h : Term). (h, choose (roots_of n b) b A es h)) (roots_of n b) s) z.0 z.1.0)),
      entries_within A es l f x,
    )

    -- every constraint is true of the model
    pub model_good : (m : ℕ) (l : Constraint) → ConstraintIn n m l → Each (λ (p : Term × Move). Idle p.1) (propagations (roots_of n b) b l) → Each (λ (p : Term × Move). Idle p.1) (splits (roots_of n b) b l) → Meant w l
    model_good m (member t A) r f s = has_in (w.members A) (w.num t) (has_term t A r.0 ∙ propagation_known 1 (In t A) f.0)
    model_good m (nonmember t A) r f s = λ x. clash (in_has (w.members A) (w.num t) x) (out_term t A r.0 (propagation_known 2 (Out t A) f.0))
    model_good m (same t u) r f s = ap (λ (y : ℕ). val (term y)) (eqb-true (root_at b t.index) (root_at b u.index) (propagation_known 3 (Same t u) f.0))
    model_good m (different t u) r f s = λ x. go (eqb (root_at b t.index) (root_at b u.index)) (eq-eqb (root_at b t.index) (root_at b u.index) (ap (λ (y : Term). y.index) (inj (root b t) (root b u) (is_root t r.0) (is_root u r.1) x))) f.0
      where
        go : (y : Bool) → y ≡ true → ((y && true) && true) ≡ false → ⊥
        go true p q = true≢false q
        go false p q = false≢true p
    model_good m (relation K A B C) r f s = test_relates K (w.members A) (w.members B) (w.members C) (relation_all K A B C (relation_root K A B C f s))
    model_good m (negation K A B C u) r f s =
        rw (has_term u A r.1, has_term u B r.1, has_term u C r.1)
        (negation_full (λ p. known b (In u (operand_of A B C p))) (λ p. known b (Out u (operand_of A B C p))) (clean_at u (operand_of A B C)) K (at_idle u (operand_of A B C) (negation_row K) s.0))
    model_good m (exactly A es) r f s = exact A es r.1 f s
    model_good m (interval A i j es) r f s = exact A es r.1 f s
