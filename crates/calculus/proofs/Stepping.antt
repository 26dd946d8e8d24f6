-- The step that is done next: some child is satisfied, and every child has less left to decide. Where nothing is done next, no move applies.
use mathlib.Core.Path.{◌≡◌, refl, subst}
use mathlib.Core.Bool.{Bool, true, false, not, false≢true}
use mathlib.Core.Option.{Option, none, some}
use mathlib.Core.List.{List, [], ◌∷◌, map}
use Prim.Native.Nat.{ℕ, suc, ◌<◌}
use native.Mathlib.Omega.{arith}
use lib.ListN.{length}
use lib.Dec.{eqb}
use borrow.Author.Tests.{eqb-true, eq-eqb}
use Rattle.calculus.specs.Terms.{Term, terms_from}
use Rattle.calculus.specs.Lists.{all, any, first, Each, Some, picked}
use Rattle.calculus.specs.Relations.{applies, sound}
use Rattle.calculus.specs.Meaning.{Constraint, Valuation}
use Rattle.calculus.specs.Branch.{Branch, root_at, Fact, known, assert, assert_all}
use Rattle.calculus.specs.Search.{Move, propagations, splits, roots_of, Candidate, candidates, places, Next, solved, step, children, taken, next}
use Rattle.calculus.specs.Invariants.{ConstraintIn}
use Rattle.calculus.proofs.Bools.{and_l, imp_at, not_t, each_all, all_each, each_app, each_left, each_right, each_imp, each_zip, each_map, map_each, first_none, first_some}
use Rattle.calculus.proofs.Truth.{truth, Sat, Distinct}
use Rattle.calculus.proofs.Asserting.{WellFormed, Ranged}
use Rattle.calculus.proofs.Measure.{measure}
use Rattle.calculus.proofs.Children.{children_sat, children_fit}
use Rattle.calculus.proofs.RuleLaws.{Meant, propagations_sound, splits_sound}
use Rattle.calculus.proofs.AddingFacts.{Tame, propagations_tame, splits_tame}
use Rattle.calculus.proofs.Sequences.{terms_each, terms_at, keep_each, keep_at}

module _ (n : ℕ) (b : Branch) where
  abbrev pub IsRoot : Term → Type 0
  IsRoot h = (h.index < n) × (root_at b h.index ≡ h.index)

  abbrev root? : Term → Bool
  root? t = eqb (root_at b t.index) t.index

  pub roots_each : Each IsRoot (roots_of n b)
  roots_each =
      each_imp (λ h. (h.index < n) × (root? h ≡ true)) IsRoot (roots_of n b) (λ h q. (q.0, eqb-true (root_at b h.index) h.index q.1))
      (keep_each (λ h. h.index < n) root? (terms_from 0 n) (terms_each (λ h. h.index < n) 0 n (λ t l h. omega arith)))

  pub roots_at : (P : Term → Type 0) → Each P (roots_of n b) → (h : Term) → IsRoot h → P h
  roots_at P e h i = terms_at (λ t. root? t ≡ true → P t) 0 n (keep_at P root? (terms_from 0 n) e) h.index (omega arith) (omega (arith, i.0)) (eq-eqb (root_at b h.index) h.index i.1)

-- ---- places

module _ (Q : Move → Type 0) (f : Constraint → List (Term × Move)) where
  candidates_each : (i : ℕ) (ls : List Constraint) → Each (λ l. Each (λ (p : Term × Move). Q p.1) (f l)) ls → Each (λ (p : Candidate). Q p.move) (candidates f i ls)
  candidates_each i [] e = tt
  candidates_each i (l ∷ ls) e =
      each_app (λ (p : Candidate). Q p.move) (map (λ (m : Term × Move). record { constraint = i; concerned = m.0; move = m.1 }) (f l)) (candidates f (suc i) ls)
      (each_map (λ (p : Candidate). Q p.move) (λ (m : Term × Move). record { constraint = i; concerned = m.0; move = m.1 }) (f l) e.0) (candidates_each (suc i) ls e.1)

  each_candidates : (i : ℕ) (ls : List Constraint) → Each (λ (p : Candidate). Q p.move) (candidates f i ls) → Each (λ l. Each (λ (p : Term × Move). Q p.1) (f l)) ls
  each_candidates i [] e = tt
  each_candidates i (l ∷ ls) e = (
    map_each (λ (p : Candidate). Q p.move) (λ (m : Term × Move). record { constraint = i; concerned = m.0; move = m.1 }) (f l)
        (each_left (λ (p : Candidate). Q p.move) (map (λ (m : Term × Move). record { constraint = i; concerned = m.0; move = m.1 }) (f l)) (candidates f (suc i) ls) e),
    each_candidates (suc i) ls (each_right (λ (p : Candidate). Q p.move) (map (λ (m : Term × Move). record { constraint = i; concerned = m.0; move = m.1 }) (f l)) (candidates f (suc i) ls) e),
  )

module _ (n : ℕ) (ls : List Constraint) (b : Branch) (Q : Move → Type 0) where
  abbrev OfPropagations : Constraint → Type 0
  OfPropagations l = Each (λ (p : Term × Move). Q p.1) (propagations (roots_of n b) b l)

  abbrev OfSplits : Constraint → Type 0
  OfSplits l = Each (λ (p : Term × Move). Q p.1) (splits (roots_of n b) b l)

  pub places_each : Each OfPropagations ls → Each OfSplits ls → Each (λ (p : Candidate). Q p.move) (places n ls b)
  places_each f s = each_app (λ (p : Candidate). Q p.move) (candidates (propagations (roots_of n b) b) 0 ls) (candidates (splits (roots_of n b) b) 0 ls)
      (candidates_each Q (propagations (roots_of n b) b) 0 ls f) (candidates_each Q (splits (roots_of n b) b) 0 ls s)

  pub each_places : Each (λ (p : Candidate). Q p.move) (places n ls b) → Each (λ l. OfPropagations l × OfSplits l) ls
  each_places e =
      each_zip OfPropagations OfSplits (λ l. OfPropagations l × OfSplits l) ls (λ l x y. (x, y))
      (each_candidates Q (propagations (roots_of n b) b) 0 ls (each_left (λ (p : Candidate). Q p.move) (candidates (propagations (roots_of n b) b) 0 ls) (candidates (splits (roots_of n b) b) 0 ls) e))
      (each_candidates Q (splits (roots_of n b) b) 0 ls (each_right (λ (p : Candidate). Q p.move) (candidates (propagations (roots_of n b) b) 0 ls) (candidates (splits (roots_of n b) b) 0 ls) e))

-- ---- the step

module _ (n : ℕ) (k : List Term) (m : ℕ) (ls : List Constraint) (li : Each (ConstraintIn n m) ls) (b : Branch) (F : WellFormed n k b) where
  hn : Each (λ h. h.index < n) (roots_of n b)
  hn = each_imp (IsRoot n b) (λ h. h.index < n) (roots_of n b) (λ h q. q.0) (roots_each n b)

  all_tame : Each (λ (p : Candidate). Tame n k m b F p.move) (places n ls b)
  all_tame = places_each n ls b (Tame n k m b F)
      (each_imp (ConstraintIn n m) (OfPropagations n ls b (Tame n k m b F)) ls (propagations_tame n k m b F (roots_of n b) hn) li)
      (each_imp (ConstraintIn n m) (OfSplits n ls b (Tame n k m b F)) ls (splits_tame n k m b F (roots_of n b) hn) li)

  -- what was found next
  abbrev test? : Candidate → Bool
  test? p = applies (known b) p.move

  pub data Found : Next → Type 1 where
    nothing : Each (λ (p : Candidate). applies (known b) p.move ≡ false) (places n ls b) → Found solved
    place : (p : Candidate) → applies (known b) p.move ≡ true → ((P : Candidate → Type 0) → Each P (places n ls b) → P p)
        → Found (step (p.move.rule ∷ p.constraint ∷ p.concerned.index ∷ length (children k b p.move) ∷ []) (children k b p.move))

  pub found : Found (next n k ls b)
  unfolding next
  found = go (first test? (places n ls b)) refl
    where
      go : (o : Option Candidate) → first test? (places n ls b) ≡ o → Found (taken k b o)
      go none e = nothing (first_none test? (places n ls b) e)
      go (some p) e = place p (first_some (λ _. Unit {0}) test? (places n ls b) p (each_imp (λ (p : Candidate). Tame n k m b F p.move) (λ _. Unit {0}) (places n ls b) (λ _ _. tt) all_tame) e).1 (λ P g. (first_some P test? (places n ls b) p g e).0)

  -- every child is sound, and has less left to decide
  pub step_fit : (r : List ℕ) (cs : List Branch) → next n k ls b ≡ step r cs → Each (λ c. WellFormed n k c × (measure n m c < measure n m b)) cs
  step_fit r cs e = go (next n k ls b) found e
    where
      go : (x : Next) → Found x → x ≡ step r cs → Each (λ c. WellFormed n k c × (measure n m c < measure n m b)) cs
      go x (nothing _) q = let w : false ≡ true = cc in absurd (false≢true w)
      go x (place p a f) q =
          let t = f (λ (p : Candidate). Tame n k m b F p.move) all_tame in
          let z : children k b p.move ≡ cs = cc in
          subst (Each (λ c. WellFormed n k c × (measure n m c < measure n m b))) z
          (children_fit n k m b F p.move.alternatives t.1
          (each_imp (λ g. not (all (known b) g) ≡ true) (λ g. all (known b) g ≡ false) p.move.alternatives (λ g. not_t (all (known b) g))
          (each_all (λ (g : List Fact). not (all (known b) g)) p.move.alternatives (imp_at (applies (known b) p.move) (all (λ (g : List Fact). not (all (known b) g)) p.move.alternatives) t.0 a))))

  -- what asserting keeps, every child has
  pub step_keeps : (P : Branch → Type 0) → ((f : Fact) → Ranged n m f → (c d : Branch) → P c → assert k c f ≡ some d → P d) → P b → (r : List ℕ) (cs : List Branch) → next n k ls b ≡ step r cs → Each P cs
  step_keeps P h p r cs e = go (next n k ls b) found e
    where
      many : (fs : List Fact) → Each (Ranged n m) fs → (c d : Branch) → P c → assert_all k c fs ≡ some d → P d
      many [] g c d p q = let z : c ≡ d = cc in subst P z p
      many (f ∷ fs) g c d p q = at (assert k c f) refl (many fs g.1)
        where
          at : (o : Option Branch) → assert k c f ≡ o → ((c d : Branch) → P c → assert_all k c fs ≡ some d → P d) → P d
          at none x ih = let z : ◌≡◌ {A = Option Branch} none (some d) = rw (x, assert_all) at q in let w : false ≡ true = cc in absurd (false≢true w)
          at (some a) x ih = ih a d (h f g.0 c a p x) (rw (x, assert_all) at q)

      kids : (gs : List (List Fact)) → Each (λ g. Each (Ranged n m) g) gs → Each P (picked (assert_all k b) gs)
      kids [] g = tt
      kids (f ∷ gs) g = at (assert_all k b f) refl (kids gs g.1)
        where
          at : (o : Option Branch) → assert_all k b f ≡ o → Each P (picked (assert_all k b) gs) → Each P (picked (assert_all k b) (f ∷ gs))
          at none x ih = rw (x, picked) ih
          at (some a) x ih = rw (x, picked) (many f g.0 b a p x, ih)

      go : (x : Next) → Found x → x ≡ step r cs → Each P cs
      go x (nothing _) q = let w : false ≡ true = cc in absurd (false≢true w)
      go x (place p a f) q =
          let t = f (λ (p : Candidate). Tame n k m b F p.move) all_tame in
          let z : children k b p.move ≡ cs = cc in
          subst (Each P) z (kids p.move.alternatives t.1)

  -- values that satisfy the branch, and of which every constraint is true, satisfy some child
  pub step_sat : (v : Valuation) → Distinct k v → Sat v b → Each (Meant v) ls → (r : List ℕ) (cs : List Branch) → next n k ls b ≡ step r cs → Some (Sat v) cs
  step_sat v d s g r cs e = go (next n k ls b) found e
    where
      all_sound : Each (λ (p : Candidate). sound (truth v) p.move ≡ true) (places n ls b)
      all_sound = places_each n ls b (λ mv. sound (truth v) mv ≡ true)
          (each_imp (Meant v) (OfPropagations n ls b (λ mv. sound (truth v) mv ≡ true)) ls (propagations_sound v b n k F s (roots_of n b)) g)
          (each_imp (Meant v) (OfSplits n ls b (λ mv. sound (truth v) mv ≡ true)) ls (splits_sound v b n k F s (roots_of n b)) g)

      go : (x : Next) → Found x → x ≡ step r cs → Some (Sat v) cs
      go x (nothing _) q = let w : false ≡ true = cc in absurd (false≢true w)
      go x (place p a f) q =
          let t = f (λ (p : Candidate). Tame n k m b F p.move) all_tame in
          let u = f (λ (p : Candidate). sound (truth v) p.move ≡ true) all_sound in
          let z : children k b p.move ≡ cs = cc in
          subst (Some (Sat v)) z
          (children_sat n k m v d b F s p.move.alternatives t.1
          (imp_at (all (truth v) p.move.premises) (any (all (truth v)) p.move.alternatives) u
          (all_each (truth v) p.move.premises
          (each_imp (λ x. known b x ≡ true) (λ x. truth v x ≡ true) p.move.premises s
          (each_all (known b) p.move.premises (and_l (all (known b) p.move.premises) (not (any (all (known b)) p.move.blockers)) a))))))

  -- a form: no move of any constraint applies
  pub solved_full : next n k ls b ≡ solved
      → Each (λ l. Each (λ (p : Term × Move). applies (known b) p.1 ≡ false) (propagations (roots_of n b) b l) × Each (λ (p : Term × Move). applies (known b) p.1 ≡ false) (splits (roots_of n b) b l)) ls
  solved_full e = go (next n k ls b) found e
    where
      go : (x : Next) → Found x → x ≡ solved → Each (λ l. Each (λ (p : Term × Move). applies (known b) p.1 ≡ false) (propagations (roots_of n b) b l) × Each (λ (p : Term × Move). applies (known b) p.1 ≡ false) (splits (roots_of n b) b l)) ls
      go x (nothing h) q = each_places n ls b (λ mv. applies (known b) mv ≡ false) h
      go x (place p a f) q = let w : false ≡ true = cc in absurd (false≢true w)
