-- The search takes the first place at which a rule applies, as document 01 orders places.
use mathlib.Core.Path.{◌≡◌, refl, sym, ◌∙◌, ap, subst}
use mathlib.Core.Logic.{◌⊎◌, inl, inr}
use mathlib.Core.Bool.{true, false, false≢true}
use mathlib.Core.Option.{Option, none, some}
use mathlib.Core.List.{List, [], ◌∷◌, map}
use Prim.Native.Nat.{ℕ, suc, ◌+◌, ◌-◌, ◌<◌, ◌≤◌}
use native.Mathlib.Omega.{arith}
use native.Mathlib.Decide.{ℕ_discrete, dec_lt}
use lib.ListN.{length, get_or}
use Rattle.calculus.specs.Lists.{first, picked}
use Rattle.calculus.specs.Terms.{Term, term, set_var}
use Rattle.calculus.specs.Meaning.{Constraint, member}
use Rattle.calculus.specs.Branch.{Branch, assert_all}
use Rattle.calculus.specs.Search.{next, Move, propagations, splits, roots_of, Candidate, candidates, places, solved, step, taken}
use Rattle.calculus.specs.Problem.{Problem, term_count, constant_terms}
use Rattle.calculus.specs.Run.{next_of}
use Rattle.calculus.specs.Order.{Place, Before, Fires, Enabled, Solved, StepOf}
use Rattle.calculus.specs.Demands.{Ordered, FirstPlace}
use Rattle.calculus.proofs.ChildrenLeft.{children}
use Rattle.calculus.proofs.Enumerating.{before_phase, before_constraint, Where, candidate, Placed, passes, Fits, Enum, enum_nil, enum_join, Lists}
use Rattle.calculus.proofs.RulePlaces.{Propagated, Split, lists_propagations, lists_splits, fires_offered, propagated_fires, split_fires, fires_one}

-- a place of W, of constraint number k
abbrev Of : (Constraint → Where) → List Constraint → Place → ℕ → Type 0
Of W ls p k = W (get_or ls k (member (term 0) (set_var 0))) p.rule p.position p.concerned p.alternatives

-- a place of W in phase L, of a constraint of ls, which are numbered from i upward
abbrev Among : (Constraint → Where) → ℕ → ℕ → List Constraint → Place → Type 0
Among W L i ls p = (p.phase ≡ L) × (i ≤ p.constraint) × (p.constraint < i + length ls) × Of W ls p (p.constraint - i)

at_first : (k i : ℕ) → k ≡ i → k - i ≡ 0
at_first k i e = omega arith

at_later : (k i : ℕ) → suc i ≤ k → k - i ≡ suc (k - suc i)
at_later k i l = omega arith

-- where the moves of each constraint list its places, those of all constraints do
constraints : (b : Branch) (L : ℕ) (W : Constraint → Where) (f : Constraint → List (Term × Move)) → ((i : ℕ) (l : Constraint) → Lists b i L (f l) (W l)) → (ls : List Constraint) (i : ℕ) → Enum b (candidates f i ls) (Among W L i ls)
constraints b L W f h [] i = enum_nil b (Among W L i []) (λ p x. omega (arith, x.1, x.2))
constraints b L W f h (l ∷ ls) i =
    enum_join b (map (candidate i) (f l)) (candidates f (suc i) ls) (Placed i L (W l)) (Among W L (suc i) ls) (Among W L i (l ∷ ls)) (h i l) (constraints b L W f h ls (suc i)) join part
    (λ p q x y. before_constraint p q (x.0 ∙ sym y.0) (omega (arith, x.1, y.1)))
  where
    join : (p : Place) → Placed i L (W l) p ⊎ Among W L (suc i) ls p → Among W L i (l ∷ ls) p
    join p (inl x) = (x.0, omega (arith, x.1), omega (arith, x.1), subst (Of W (l ∷ ls) p) (sym (at_first p.constraint i x.1)) x.2)
    join p (inr x) = (x.0, omega (arith, x.1), omega (arith, x.2), subst (Of W (l ∷ ls) p) (sym (at_later p.constraint i x.1)) x.3)

    part : (p : Place) → Among W L i (l ∷ ls) p → Placed i L (W l) p ⊎ Among W L (suc i) ls p
    part p x = at (ℕ_discrete p.constraint i)
      where
        at : Dec (p.constraint ≡ i) → Placed i L (W l) p ⊎ Among W L (suc i) ls p
        at (yes e) = inl (x.0, e, subst (Of W (l ∷ ls) p) (at_first p.constraint i e) x.3)
        at (no e) = let z : suc i ≤ p.constraint = omega (arith, x.1) in inr (x.0, z, omega (arith, x.2), subst (Of W (l ∷ ls) p) (at_later p.constraint i z) x.3)

-- every place of a list of constraints, in the order of the search
module _ (n : ℕ) (b : Branch) (ls : List Constraint) where
  abbrev FiresAt : ℕ → Place → ℕ → Type 0
  FiresAt k p L = Fires n b (get_or ls k (member (term 0) (set_var 0))) L p.rule p.position p.concerned p.alternatives

  abbrev Standing : Place → Type 0
  Standing p = (p.constraint < length ls) × FiresAt p.constraint p p.phase

  all_places : Enum b (places n ls b) Standing
  all_places =
      enum_join b (candidates (propagations (roots_of n b) b) 0 ls) (candidates (splits (roots_of n b) b) 0 ls) (Among (Propagated n b) 0 0 ls) (Among (Split n b) 1 0 ls) Standing
      (constraints b 0 (Propagated n b) (propagations (roots_of n b) b) (lists_propagations n b) ls 0)
      (constraints b 1 (Split n b) (splits (roots_of n b) b) (lists_splits n b) ls 0) join part
      (λ p q x y. before_phase p q (omega (arith, x.0, y.0)))
    where
      same : (p : Place) → p.constraint - 0 ≡ p.constraint
      same p = omega arith

      join : (p : Place) → Among (Propagated n b) 0 0 ls p ⊎ Among (Split n b) 1 0 ls p → Standing p
      join p (inl x) = (omega (arith, x.2), subst (FiresAt p.constraint p) (sym x.0) (propagated_fires n b (get_or ls p.constraint (member (term 0) (set_var 0))) p.rule p.position p.concerned p.alternatives (subst (Of (Propagated n b) ls p) (same p) x.3)))
      join p (inr x) = (omega (arith, x.2), subst (FiresAt p.constraint p) (sym x.0) (split_fires n b (get_or ls p.constraint (member (term 0) (set_var 0))) p.rule p.position p.concerned p.alternatives (subst (Of (Split n b) ls p) (same p) x.3)))

      part : (p : Place) → Standing p → Among (Propagated n b) 0 0 ls p ⊎ Among (Split n b) 1 0 ls p
      part p x = at (fires_offered n b (get_or ls p.constraint (member (term 0) (set_var 0))) p.phase p.rule p.position p.concerned p.alternatives x.1)
        where
          at : ((p.phase ≡ 0) × Of (Propagated n b) ls p p.constraint) ⊎ ((p.phase ≡ 1) × Of (Split n b) ls p p.constraint) → Among (Propagated n b) 0 0 ls p ⊎ Among (Split n b) 1 0 ls p
          at (inl e) = inl (e.0, omega arith, omega (arith, x.0), subst (Of (Propagated n b) ls p) (sym (same p)) e.1)
          at (inr e) = inr (e.0, omega arith, omega (arith, x.0), subst (Of (Split n b) ls p) (sym (same p)) e.1)

-- ---- of two places one is first

abbrev Three : ℕ → ℕ → Type 0
Three m n = (m < n) ⊎ ((n < m) ⊎ (m ≡ n))

three : (m n : ℕ) → Three m n
three m n = go (dec_lt m n) (dec_lt n m)
  where
    go : Dec (m < n) → Dec (n < m) → Three m n
    go (yes a) d = inl a
    go (no a) (yes b) = inr (inl b)
    go (no a) (no b) = inr (inr (omega arith))

-- the same phase, constraint, rule and position
abbrev Alike : Place → Place → Type 0
Alike p q = (p.phase ≡ q.phase) × (p.constraint ≡ q.constraint) × (p.rule ≡ q.rule) × (p.position ≡ q.position)

compared : (p q : Place) → Before p q ⊎ (Before q p ⊎ Alike p q)
compared p q = go (three p.phase q.phase) (three p.constraint q.constraint) (three p.rule q.rule) (three p.position q.position)
  where
    go : Three p.phase q.phase → Three p.constraint q.constraint → Three p.rule q.rule → Three p.position q.position → Before p q ⊎ (Before q p ⊎ Alike p q)
    go (inl a) x y z = inl (inl a)
    go (inr (inl a)) x y z = inr (inl (inl a))
    go (inr (inr a)) (inl b) y z = inl (inr (a, inl b))
    go (inr (inr a)) (inr (inl b)) y z = inr (inl (inr (sym a, inl b)))
    go (inr (inr a)) (inr (inr b)) (inl c) z = inl (inr (a, inr (b, inl c)))
    go (inr (inr a)) (inr (inr b)) (inr (inl c)) z = inr (inl (inr (sym a, inr (sym b, inl c))))
    go (inr (inr a)) (inr (inr b)) (inr (inr c)) (inl d) = inl (inr (a, inr (b, inr (c, d))))
    go (inr (inr a)) (inr (inr b)) (inr (inr c)) (inr (inl d)) = inr (inl (inr (sym a, inr (sym b, inr (sym c, d)))))
    go (inr (inr a)) (inr (inr b)) (inr (inr c)) (inr (inr d)) = inr (inr (a, b, c, d))

place_is : (p q : Place) → Alike p q → p.concerned ≡ q.concerned → p.alternatives ≡ q.alternatives → p ≡ q
place_is p q (a, b, c, d) e f = λ i. record { phase = a i; constraint = b i; rule = c i; position = d i; concerned = e i; alternatives = f i }

-- places that are alike, where a rule applies at both, are one
alike_one : (prob : Problem) (b : Branch) (p q : Place) → Enabled prob b p → Enabled prob b q → Alike p q → p ≡ q
alike_one prob b p q x y a =
    let F : (k L r s : ℕ) → Type 0 = λ k L r s. Fires (term_count prob) b (get_or prob.constraints k (member (term 0) (set_var 0))) L r s q.concerned q.alternatives in
    let z : F p.constraint p.phase p.rule p.position = rw (a.0, a.1, a.2, a.3) y.1 in
    let o = fires_one (term_count prob) b _ _ _ _ _ _ _ _ x.1 z in
    place_is p q a o.0 o.1

pub ordered : Ordered
ordered prob b p q x y = go (compared p q)
  where
    go : Before p q ⊎ (Before q p ⊎ Alike p q) → Before p q ⊎ (Before q p ⊎ (p ≡ q))
    go (inl l) = inl l
    go (inr (inl l)) = inr (inl l)
    go (inr (inr a)) = inr (inr (alike_one prob b p q x y a))

-- ---- the search finds it

four : {a b c d e f g h : ℕ} → a ≡ e → b ≡ f → c ≡ g → d ≡ h → (a ∷ b ∷ c ∷ d ∷ []) ≡ (e ∷ f ∷ g ∷ h ∷ [])
four p q r s = λ i. p i ∷ q i ∷ r i ∷ s i ∷ []

pub first_place : FirstPlace
unfolding next
first_place prob b = (
  ((λ e. nothing e (first (passes b) (places (term_count prob) prob.constraints b)) refl), λ h. lacking h (first (passes b) (places (term_count prob) prob.constraints b)) refl),
  (λ r cs. ((λ e. found r cs e (first (passes b) (places (term_count prob) prob.constraints b)) refl), λ s. finding r cs s (first (passes b) (places (term_count prob) prob.constraints b)) refl)),
)
  where
    E : Enum b (places (term_count prob) prob.constraints b) (Enabled prob b)
    E = all_places (term_count prob) b prob.constraints

    K : List Term
    K = constant_terms prob

    kids : Move → List Branch
    kids m = picked (assert_all K b) m.alternatives

    nothing : next_of prob b ≡ solved → (o : Option Candidate) → first (passes b) (places (term_count prob) prob.constraints b) ≡ o → Solved prob b
    nothing e none u p x = E.lacks u p x
    nothing e (some y) u p x = let z : taken K b (some y) ≡ solved = ap (taken K b) (sym u) ∙ e in let w : false ≡ true = cc in false≢true w

    lacking : Solved prob b → (o : Option Candidate) → first (passes b) (places (term_count prob) prob.constraints b) ≡ o → next_of prob b ≡ solved
    lacking h none u = ap (taken K b) u
    lacking h (some y) u = let f = E.finds y u in absurd (h f.0 f.1)

    found : (r : List ℕ) (cs : List Branch) → next_of prob b ≡ step r cs → (o : Option Candidate) → first (passes b) (places (term_count prob) prob.constraints b) ≡ o → StepOf prob b r cs
    found r cs e none u = let z : solved ≡ step r cs = ap (taken K b) (sym u) ∙ e in let w : false ≡ true = cc in absurd (false≢true w)
    found r cs e (some y) u =
        let z : step (y.move.rule ∷ y.constraint ∷ y.concerned.index ∷ length (kids y.move) ∷ []) (kids y.move) ≡ step r cs = ap (taken K b) (sym u) ∙ e in
        let c : kids y.move ≡ cs = cc in
        let t : (y.move.rule ∷ y.constraint ∷ y.concerned.index ∷ length (kids y.move) ∷ []) ≡ r = cc in
        let f = E.finds y u in
        record {
          place = f.0;
          enabled = f.1;
          first = f.3;
          leaves = ((children.0 K b).1 f.0.alternatives cs).1 (ap (picked (assert_all K b)) (sym f.2.3) ∙ c);
          traced = sym t ∙ four f.2.2 f.2.0 (ap (λ (x : Term). x.index) f.2.1) (ap (length {A = Branch}) c);
        }

    finding : (r : List ℕ) (cs : List Branch) → StepOf prob b r cs → (o : Option Candidate) → first (passes b) (places (term_count prob) prob.constraints b) ≡ o → next_of prob b ≡ step r cs
    finding r cs s none u = absurd (E.lacks u s.place s.enabled)
    finding r cs s (some y) u = at (ordered prob b s.place (E.finds y u).0 s.enabled (E.finds y u).1)
      where
        at : Before s.place (E.finds y u).0 ⊎ (Before (E.finds y u).0 s.place ⊎ (s.place ≡ (E.finds y u).0)) → next_of prob b ≡ step r cs
        at (inl l) = absurd ((E.finds y u).3 s.place s.enabled l)
        at (inr (inl l)) = absurd (s.first (E.finds y u).0 (E.finds y u).1 l)
        at (inr (inr e)) =
            let f = E.finds y u in
            let g : Fits b s.place y = subst (λ (p : Place). Fits b p y) (sym e) f.2 in
            let c : kids y.move ≡ cs = ap (picked (assert_all K b)) g.3 ∙ ((children.0 K b).1 s.place.alternatives cs).0 s.leaves in
            let t : (y.move.rule ∷ y.constraint ∷ y.concerned.index ∷ length (kids y.move) ∷ []) ≡ r = four g.2 g.0 (ap (λ (x : Term). x.index) g.1) (ap (length {A = Branch}) c) ∙ sym s.traced in
            ap (taken K b) u ∙ λ i. step (t i) (c i)
