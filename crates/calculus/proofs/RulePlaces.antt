-- Where each rule fires: the moves of a constraint, in their order, are at exactly the places that Fires gives.
use mathlib.Core.Path.{◌≡◌, refl, sym, ◌∙◌, ap, subst}
use mathlib.Core.Logic.{◌⊎◌, inl, inr}
use mathlib.Core.Bool.{true}
use mathlib.Core.List.{List, [], ◌∷◌, map, map-append}
use Prim.Native.Nat.{ℕ, zero, suc, ◌+◌, ◌<◌}
use native.Mathlib.Omega.{arith}
use lib.ListN.{length, get_or}
use lib.Dec.{eqb}
use borrow.Author.Tests.{eqb-true, eq-eqb}
use Rattle.calculus.specs.Lists.{keep, up_from, Each}
use Rattle.calculus.specs.Terms.{Term, SetVar, term}
use Rattle.calculus.specs.Relations.{Rule, propagation, Relation, equal, union, disjoint, subset, intersection, unequal, Operand, Literal, propagation_rows, split_rows, negation_row, operand_of}
use Rattle.calculus.specs.Meaning.{Constraint, member, nonmember, same, different, relation, negation, exactly, interval}
use Rattle.calculus.specs.Branch.{Branch, root_at, root, Fact, In, Out, Same}
use Rattle.calculus.specs.Search.{Move, at, at_roots, distinct, entering, choose, propagations, splits, roots_of}
use Rattle.calculus.specs.Order.{OneClass, Place, Root, Fires, rule1, rule2, rule3, rule4, rule5, rule6, rule7, rule8, rule9, rule10, rule11, rule12, rule13, rule14, rule15, rule16, rule17, rule18, rule19, rule20, by_list, by_interval}
use Rattle.calculus.proofs.ChildrenLeft.{classes}
use Rattle.calculus.proofs.Enumerating.{Where, candidate, Placed, before_rule, Enum, enum_nil, enum_join, Yes, Ready, Lists, lists_iff, Spot, Run, spots}

-- a list is its entries, by position
by_position : (es : List Term) (f : ℕ → Term) (o : ℕ) → ((p : ℕ) → p < length es → f (o + p) ≡ get_or es p (term 0)) → keep (λ _. true) (map f (up_from o (length es))) ≡ es
by_position [] f o h = refl
by_position (e ∷ es) f o h =
    let z : f o ≡ e = ap f (omega arith) ∙ h 0 (omega arith) in
    let y : keep (λ _. true) (map f (up_from (suc o) (length es))) ≡ es = by_position es f (suc o) (λ p l. ap f (omega arith) ∙ h (suc p) (omega arith)) in
    λ i. z i ∷ y i

-- rule numbers rise, from above k
abbrev Rising : ℕ → List (Rule Literal) → Type 0
Rising k [] = Unit {0}
Rising k (x ∷ xs) = (k < x.rule) × Rising x.rule xs

rising : (k : Relation) → Rising 0 (propagation_rows k) × Rising 0 (split_rows k)
rising equal = ((omega arith, (omega arith, tt)), tt)
rising union = ((omega arith, (omega arith, (omega arith, (omega arith, tt)))), (omega arith, tt))
rising disjoint = ((omega arith, (omega arith, tt)), tt)
rising subset = ((omega arith, tt), tt)
rising intersection = ((omega arith, (omega arith, (omega arith, tt))), tt)

module _ (n : ℕ) (b : Branch) where
  -- ---- the places that a constraint offers

  -- once
  abbrev Once : Term → Move → Where
  Once w m = Spot b (λ s. s ≡ 0) (λ _. (w, m))

  -- at every root
  abbrev AtRoots : (Term → Move) → Where
  AtRoots m = Spot b (Root n b) (λ h. (term h, m (term h)))

  -- by the rows of a table
  abbrev AtRows : (Operand → SetVar) → List (Rule Literal) → Where
  AtRows o [] r s w gs = ⊥
  AtRows o (x ∷ xs) r s w gs = AtRoots (λ h. at h o x) r s w gs ⊎ AtRows o xs r s w gs

  -- by the entries of a set, rules 19 and 20
  abbrev in_set : SetVar → Term → Term × Move
  in_set A e = (root b e, propagation 19 [] (In e A))

  abbrev Entering : SetVar → List Term → Where
  Entering A es = Spot b (λ p. p < length es) (λ p. in_set A (get_or es p (term 0)))

  abbrev Choosing : SetVar → List Term → Where
  Choosing A es = AtRoots (choose (roots_of n b) b A es)

  abbrev pub Propagated : Constraint → Where
  Propagated (member t A) = Once (root b t) (propagation 1 [] (In t A))
  Propagated (nonmember t A) = Once (root b t) (propagation 2 [] (Out t A))
  Propagated (same t u) = Once (root b t) (propagation 3 [] (Same t u))
  Propagated (different t u) = Once (root b t) (record { rule = 4; premises = Same t u ∷ []; blockers = []; alternatives = [] })
  Propagated (relation k A B C) = AtRows (operand_of A B C) (propagation_rows k)
  Propagated (negation k A B C w) = λ _ _ _ _. ⊥
  Propagated (exactly A es) = Entering A es
  Propagated (interval A i j es) = Entering A es

  abbrev pub Split : Constraint → Where
  Split (member t A) = λ _ _ _ _. ⊥
  Split (nonmember t A) = λ _ _ _ _. ⊥
  Split (same t u) = λ _ _ _ _. ⊥
  Split (different t u) = λ _ _ _ _. ⊥
  Split (relation k A B C) = AtRows (operand_of A B C) (split_rows k)
  Split (negation k A B C w) = Once (root b w) (at w (operand_of A B C) (negation_row k))
  Split (exactly A es) = Choosing A es
  Split (interval A i j es) = Choosing A es

  -- ---- its moves list them

  module _ (i L : ℕ) where
    none_at : Lists b i L [] (λ _ _ _ _. ⊥)
    none_at = enum_nil b (Placed i L (λ _ _ _ _. ⊥)) (λ p x. x.2)

    once : (w : Term) (m : Move) → Lists b i L ((w, m) ∷ []) (Once w m)
    once w m = lists_iff b i L ((w, m) ∷ []) (Run b (λ _. true) term (λ _. (w, m)) 0 1) (Once w m)
        (λ r s v gs x. (omega (arith, x.0.1), x.1, x.2, x.3, x.4)) (λ r s v gs x. ((omega arith, omega (arith, x.0), refl), x.1, x.2, x.3, x.4))
        (spots b i L m.rule (λ _. true) term (λ _. (w, m)) (λ _. refl) 1 0)

    lists_at_roots : (k : ℕ) (m : Term → Move) → ((t : Term) → (m t).rule ≡ k) → Lists b i L (map (λ (h : Term). (h, m h)) (roots_of n b)) (AtRoots m)
    lists_at_roots k m is = lists_iff b i L (map (λ (h : Term). (h, m h)) (roots_of n b)) (Run b (λ t. eqb (root_at b t.index) t.index) term (λ h. (h, m h)) 0 n) (AtRoots m)
        (λ r s v gs x. ((omega (arith, x.0.1), eqb-true (root_at b s) s x.0.2), x.1, x.2, x.3, x.4))
        (λ r s v gs x. ((omega arith, omega (arith, x.0.0), eq-eqb (root_at b s) s x.0.1), x.1, x.2, x.3, x.4))
        (spots b i L k (λ t. eqb (root_at b t.index) t.index) term (λ h. (h, m h)) is n 0)

    above : (o : Operand → SetVar) (k : ℕ) (xs : List (Rule Literal)) → Rising k xs → (r s : ℕ) (w : Term) (gs : List (List Fact)) → AtRows o xs r s w gs → k < r
    above o k [] a r s w gs y = absurd y
    above o k (x ∷ xs) a r s w gs (inl y) = omega (arith, a.0, y.1)
    above o k (x ∷ xs) a r s w gs (inr y) = let z = above o x.rule xs a.1 r s w gs y in omega (arith, z, a.0)

    at_rows : (o : Operand → SetVar) (k : ℕ) (xs : List (Rule Literal)) → Rising k xs → Lists b i L (at_roots (roots_of n b) o xs) (AtRows o xs)
    at_rows o k [] a = enum_nil b (Placed i L (AtRows o [])) (λ p x. x.2)
    at_rows o k (x ∷ xs) a =
        subst (λ cs. Enum b cs (Placed i L (AtRows o (x ∷ xs)))) (sym (map-append (candidate i) (map (λ (h : Term). (h, at h o x)) (roots_of n b)) (at_roots (roots_of n b) o xs)))
        (enum_join b (map (candidate i) (map (λ (h : Term). (h, at h o x)) (roots_of n b))) (map (candidate i) (at_roots (roots_of n b) o xs)) (Placed i L (AtRoots (λ h. at h o x))) (Placed i L (AtRows o xs)) (Placed i L (AtRows o (x ∷ xs)))
        (lists_at_roots x.rule (λ h. at h o x) (λ _. refl)) (at_rows o x.rule xs a.1) join part
        (λ p q y z. before_rule p q (y.0 ∙ sym z.0) (y.1 ∙ sym z.1) (let u = above o x.rule xs a.1 q.rule q.position q.concerned q.alternatives z.2 in omega (arith, u, y.2.1))))
      where
        join : (p : Place) → Placed i L (AtRoots (λ h. at h o x)) p ⊎ Placed i L (AtRows o xs) p → Placed i L (AtRows o (x ∷ xs)) p
        join p (inl y) = (y.0, y.1, inl y.2)
        join p (inr y) = (y.0, y.1, inr y.2)

        part : (p : Place) → Placed i L (AtRows o (x ∷ xs)) p → Placed i L (AtRoots (λ h. at h o x)) p ⊎ Placed i L (AtRows o xs) p
        part p (e, f, inl y) = inl (e, f, y)
        part p (e, f, inr y) = inr (e, f, y)

    at_entries : (A : SetVar) (es : List Term) → Lists b i L (entering (roots_of n b) b A es) (Entering A es)
    at_entries A es = lists_iff b i L (entering (roots_of n b) b A es) (Run b (λ _. true) (λ p. get_or es p (term 0)) (in_set A) 0 (length es)) (Entering A es)
        (λ r s v gs x. (omega (arith, x.0.1), x.1, x.2, x.3, x.4)) (λ r s v gs x. ((omega arith, omega (arith, x.0), refl), x.1, x.2, x.3, x.4))
        (subst (λ ds. Lists b i L (entering (roots_of n b) b A ds) (Run b (λ _. true) (λ p. get_or es p (term 0)) (in_set A) 0 (length es))) (by_position es (λ p. get_or es p (term 0)) 0 (λ p l. ap (λ k. get_or es k (term 0)) (omega arith)))
        (spots b i L 19 (λ _. true) (λ p. get_or es p (term 0)) (in_set A) (λ _. refl) (length es) 0))

  pub lists_propagations : (i : ℕ) (l : Constraint) → Lists b i 0 (propagations (roots_of n b) b l) (Propagated l)
  lists_propagations i (member t A) = once i 0 (root b t) (propagation 1 [] (In t A))
  lists_propagations i (nonmember t A) = once i 0 (root b t) (propagation 2 [] (Out t A))
  lists_propagations i (same t u) = once i 0 (root b t) (propagation 3 [] (Same t u))
  lists_propagations i (different t u) = once i 0 (root b t) (record { rule = 4; premises = Same t u ∷ []; blockers = []; alternatives = [] })
  lists_propagations i (relation k A B C) = at_rows i 0 (operand_of A B C) 0 (propagation_rows k) (rising k).0
  lists_propagations i (negation k A B C w) = none_at i 0
  lists_propagations i (exactly A es) = at_entries i 0 A es
  lists_propagations i (interval A f l es) = at_entries i 0 A es

  pub lists_splits : (i : ℕ) (l : Constraint) → Lists b i 1 (splits (roots_of n b) b l) (Split l)
  lists_splits i (member t A) = none_at i 1
  lists_splits i (nonmember t A) = none_at i 1
  lists_splits i (same t u) = none_at i 1
  lists_splits i (different t u) = none_at i 1
  lists_splits i (relation k A B C) = at_rows i 1 (operand_of A B C) 0 (split_rows k) (rising k).1
  lists_splits i (negation k A B C w) = once i 1 (root b w) (at w (operand_of A B C) (negation_row k))
  lists_splits i (exactly A es) = lists_at_roots i 1 20 (choose (roots_of n b) b A es) (λ _. refl)
  lists_splits i (interval A f l es) = lists_at_roots i 1 20 (choose (roots_of n b) b A es) (λ _. refl)

  -- ---- they are those of Fires

  -- of rule 20: no entry is in the class
  each_position : (h : Term) (es : List Term) → Each (λ u. ¬ Each (Yes b) u) (map (λ (e : Term). Same h e ∷ []) es) → (p : ℕ) → p < length es → ¬ OneClass b h (get_or es p (term 0))
  each_position h [] a p l = absurd (omega arith)
  each_position h (e ∷ es) a zero l = λ o. a.0 (o, tt)
  each_position h (e ∷ es) a (suc p) l = each_position h es a.1 p (omega arith)

  position_each : (h : Term) (es : List Term) → ((p : ℕ) → p < length es → ¬ OneClass b h (get_or es p (term 0))) → Each (λ u. ¬ Each (Yes b) u) (map (λ (e : Term). Same h e ∷ []) es)
  position_each h [] a = tt
  position_each h (e ∷ es) a = ((λ o. a 0 (omega arith) o.0), position_each h es (λ p l. a (suc p) (omega arith)))

  -- where a rule fires, its constraint offers the place
  pub fires_offered : (l : Constraint) (L r s : ℕ) (w : Term) (gs : List (List Fact)) → Fires n b l L r s w gs → ((L ≡ 0) × Propagated l r s w gs) ⊎ ((L ≡ 1) × Split l r s w gs)
  fires_offered l L r s w gs (rule1 x) = inl (refl, (refl, refl, refl, refl, (tt, ((λ k. x k.0), tt))))
  fires_offered l L r s w gs (rule2 x) = inl (refl, (refl, refl, refl, refl, (tt, ((λ k. x k.0), tt))))
  fires_offered l L r s w gs (rule3 x) = inl (refl, (refl, refl, refl, refl, (tt, ((λ k. x k.0), tt))))
  fires_offered l L r s w gs (rule4 x) = inl (refl, (refl, refl, refl, refl, ((x, tt), tt)))
  fires_offered l L r s w gs (rule5 h x y) = inl (refl, inl (h, refl, refl, refl, ((x, tt), ((λ k. y k.0), tt))))
  fires_offered l L r s w gs (rule6 h x y) = inl (refl, inr (inl (h, refl, refl, refl, ((x, tt), ((λ k. y k.0), tt)))))
  fires_offered l L r s w gs (rule8 h x y) = inl (refl, inl (h, refl, refl, refl, ((x, tt), ((λ k. y k.0), tt))))
  fires_offered l L r s w gs (rule9 h x y) = inl (refl, inr (inl (h, refl, refl, refl, ((x, tt), ((λ k. y k.0), tt)))))
  fires_offered l L r s w gs (rule10 h x z y) = inl (refl, inr (inr (inl (h, refl, refl, refl, ((x, (z, tt)), ((λ k. y k.0), tt))))))
  fires_offered l L r s w gs (rule11 h x z y) = inl (refl, inr (inr (inr (inl (h, refl, refl, refl, ((x, (z, tt)), ((λ k. y k.0), tt)))))))
  fires_offered l L r s w gs (rule13 h x y) = inl (refl, inl (h, refl, refl, refl, ((x, tt), ((λ k. y k.0), tt))))
  fires_offered l L r s w gs (rule14 h x y) = inl (refl, inr (inl (h, refl, refl, refl, ((x, tt), ((λ k. y k.0), tt)))))
  fires_offered l L r s w gs (rule15 h x y) = inl (refl, inl (h, refl, refl, refl, ((x, tt), ((λ k. y k.0), tt))))
  fires_offered l L r s w gs (rule16 h x y) = inl (refl, inl (h, refl, refl, refl, ((x, tt), ((λ k. y k.0), tt))))
  fires_offered l L r s w gs (rule17 h x y) = inl (refl, inr (inl (h, refl, refl, refl, ((x, tt), ((λ k. y k.0), tt)))))
  fires_offered l L r s w gs (rule18 h x z y) = inl (refl, inr (inr (inl (h, refl, refl, refl, ((x, (z, tt)), ((λ k. y k.0), tt))))))
  fires_offered l L r s w gs (rule19 p by_list k x) = inl (refl, (k, refl, refl, refl, (tt, ((λ k. x k.0), tt))))
  fires_offered l L r s w gs (rule19 p by_interval k x) = inl (refl, (k, refl, refl, refl, (tt, ((λ k. x k.0), tt))))
  fires_offered l L r s w gs (rule7 x y) = inr (refl, (refl, refl, refl, refl, (tt, ((λ k. x (k.0, k.1.0)), ((λ k. y (k.0, k.1.0)), tt)))))
  fires_offered l L r s w gs (rule12 h x p q u v) = inr (refl, inl (h, refl, refl, refl, ((x, tt), ((λ k. p k.0), ((λ k. q k.0), ((λ k. u k.0), ((λ k. v k.0), tt)))))))
  fires_offered l L r s w gs (rule20 {es = es} {ds = ds} by_list h x y o) = inr (refl, (h, refl, refl, ap (map (λ (e : Term). Same (term s) e ∷ [])) (sym ((classes (map (root b) es) ds).0 o)), ((x, tt), position_each (term s) es y)))
  fires_offered l L r s w gs (rule20 {es = es} {ds = ds} by_interval h x y o) = inr (refl, (h, refl, refl, ap (map (λ (e : Term). Same (term s) e ∷ [])) (sym ((classes (map (root b) es) ds).0 o)), ((x, tt), position_each (term s) es y)))

  -- and at what a constraint offers a rule fires
  module _ (l : Constraint) (L : ℕ) where
    spot_fires : (S : ℕ → Type 0) (f : ℕ → Term × Move) → ((s : ℕ) → S s → Ready b (f s).1 → Fires n b l L (f s).1.rule s (f s).0 (f s).1.alternatives) → (r s : ℕ) (w : Term) (gs : List (List Fact)) → Spot b S f r s w gs → Fires n b l L r s w gs
    spot_fires S f h r s w gs (a, e, d, k, y) =
        subst (λ x. Fires n b l L x s w gs) (sym e) (subst (λ x. Fires n b l L (f s).1.rule s x gs) (sym d) (subst (λ x. Fires n b l L (f s).1.rule s (f s).0 x) (sym k) (h s a y)))

    once_fires : (v : Term) (m : Move) → (Ready b m → Fires n b l L m.rule 0 v m.alternatives) → (r s : ℕ) (w : Term) (gs : List (List Fact)) → Once v m r s w gs → Fires n b l L r s w gs
    once_fires v m h = spot_fires (λ s. s ≡ 0) (λ _. (v, m)) (λ s e y. subst (λ x. Fires n b l L m.rule x v m.alternatives) (sym e) (h y))

    -- a row of a table fires at a root where it is ready
    abbrev Row : (Operand → SetVar) → Rule Literal → Type 0
    Row o x = (h : ℕ) → Root n b h → Ready b (at (term h) o x) → Fires n b l L x.rule h (term h) (at (term h) o x).alternatives

    rows_fire : (o : Operand → SetVar) (xs : List (Rule Literal)) → Each (Row o) xs → (r s : ℕ) (w : Term) (gs : List (List Fact)) → AtRows o xs r s w gs → Fires n b l L r s w gs
    rows_fire o [] a r s w gs y = absurd y
    rows_fire o (x ∷ xs) a r s w gs (inl y) = spot_fires (Root n b) (λ h. (term h, at (term h) o x)) a.0 r s w gs y
    rows_fire o (x ∷ xs) a r s w gs (inr y) = rows_fire o xs a.1 r s w gs y

  propagation_rows_of : (k : Relation) (A B C : SetVar) → Each (Row (relation k A B C) 0 (operand_of A B C)) (propagation_rows k)
  propagation_rows_of equal A B C = ((λ h d y. rule5 d y.0.0 (λ k. y.1.0 (k, tt))), ((λ h d y. rule6 d y.0.0 (λ k. y.1.0 (k, tt))), tt))
  propagation_rows_of union A B C = (
    (λ h d y. rule8 d y.0.0 (λ k. y.1.0 (k, tt))),
    (
      (λ h d y. rule9 d y.0.0 (λ k. y.1.0 (k, tt))),
      ((λ h d y. rule10 d y.0.0 y.0.1.0 (λ k. y.1.0 (k, tt))), ((λ h d y. rule11 d y.0.0 y.0.1.0 (λ k. y.1.0 (k, tt))), tt)),
    ),
  )
  propagation_rows_of disjoint A B C = ((λ h d y. rule13 d y.0.0 (λ k. y.1.0 (k, tt))), ((λ h d y. rule14 d y.0.0 (λ k. y.1.0 (k, tt))), tt))
  propagation_rows_of subset A B C = ((λ h d y. rule15 d y.0.0 (λ k. y.1.0 (k, tt))), tt)
  propagation_rows_of intersection A B C = ((λ h d y. rule16 d y.0.0 (λ k. y.1.0 (k, tt))), ((λ h d y. rule17 d y.0.0 (λ k. y.1.0 (k, tt))), ((λ h d y. rule18 d y.0.0 y.0.1.0 (λ k. y.1.0 (k, tt))), tt)))

  split_rows_of : (k : Relation) (A B C : SetVar) → Each (Row (relation k A B C) 1 (operand_of A B C)) (split_rows k)
  split_rows_of equal A B C = tt
  split_rows_of union A B C = ((λ h d y. rule12 d y.0.0 (λ k. y.1.0 (k, tt)) (λ k. y.1.1.0 (k, tt)) (λ k. y.1.1.1.0 (k, tt)) (λ k. y.1.1.1.1.0 (k, tt))), tt)
  split_rows_of disjoint A B C = tt
  split_rows_of subset A B C = tt
  split_rows_of intersection A B C = tt

  pub propagated_fires : (l : Constraint) (r s : ℕ) (w : Term) (gs : List (List Fact)) → Propagated l r s w gs → Fires n b l 0 r s w gs
  propagated_fires (member t A) = once_fires (member t A) 0 (root b t) (propagation 1 [] (In t A)) (λ y. rule1 (λ k. y.1.0 (k, tt)))
  propagated_fires (nonmember t A) = once_fires (nonmember t A) 0 (root b t) (propagation 2 [] (Out t A)) (λ y. rule2 (λ k. y.1.0 (k, tt)))
  propagated_fires (same t u) = once_fires (same t u) 0 (root b t) (propagation 3 [] (Same t u)) (λ y. rule3 (λ k. y.1.0 (k, tt)))
  propagated_fires (different t u) = once_fires (different t u) 0 (root b t) (record { rule = 4; premises = Same t u ∷ []; blockers = []; alternatives = [] }) (λ y. rule4 y.0.0)
  propagated_fires (relation k A B C) = rows_fire (relation k A B C) 0 (operand_of A B C) (propagation_rows k) (propagation_rows_of k A B C)
  propagated_fires (negation k A B C w) = λ _ _ _ _ x. absurd x
  propagated_fires (exactly A es) = spot_fires (exactly A es) 0 (λ p. p < length es) (λ p. in_set A (get_or es p (term 0))) (λ p l y. rule19 p by_list l (λ k. y.1.0 (k, tt)))
  propagated_fires (interval A i j es) = spot_fires (interval A i j es) 0 (λ p. p < length es) (λ p. in_set A (get_or es p (term 0))) (λ p l y. rule19 p by_interval l (λ k. y.1.0 (k, tt)))

  pub split_fires : (l : Constraint) (r s : ℕ) (w : Term) (gs : List (List Fact)) → Split l r s w gs → Fires n b l 1 r s w gs
  split_fires (member t A) = λ _ _ _ _ x. absurd x
  split_fires (nonmember t A) = λ _ _ _ _ x. absurd x
  split_fires (same t u) = λ _ _ _ _ x. absurd x
  split_fires (different t u) = λ _ _ _ _ x. absurd x
  split_fires (relation k A B C) = rows_fire (relation k A B C) 1 (operand_of A B C) (split_rows k) (split_rows_of k A B C)
  split_fires (negation unequal A B C v) = once_fires (negation unequal A B C v) 1 (root b v) (at v (operand_of A B C) (negation_row unequal)) (λ y. rule7 (λ k. y.1.0 (k.0, (k.1, tt))) (λ k. y.1.1.0 (k.0, (k.1, tt))))
  split_fires (exactly A es) = spot_fires (exactly A es) 1 (Root n b) (λ h. (term h, choose (roots_of n b) b A es (term h))) (λ h d y. rule20 by_list d y.0.0 (each_position (term h) es y.1) ((classes (map (root b) es) (distinct (map (root b) es))).1 refl))
  split_fires (interval A i j es) = spot_fires (interval A i j es) 1 (Root n b) (λ h. (term h, choose (roots_of n b) b A es (term h))) (λ h d y. rule20 by_interval d y.0.0 (each_position (term h) es y.1) ((classes (map (root b) es) (distinct (map (root b) es))).1 refl))

  -- a rule fires at a position in one way
  pub fires_one : (l : Constraint) (L r s : ℕ) (w v : Term) (gs hs : List (List Fact)) → Fires n b l L r s w gs → Fires n b l L r s v hs → (w ≡ v) × (gs ≡ hs)
  fires_one l L r s w v gs hs (rule1 _) (rule1 _) = (refl, refl)
  fires_one l L r s w v gs hs (rule2 _) (rule2 _) = (refl, refl)
  fires_one l L r s w v gs hs (rule3 _) (rule3 _) = (refl, refl)
  fires_one l L r s w v gs hs (rule4 _) (rule4 _) = (refl, refl)
  fires_one l L r s w v gs hs (rule5 _ _ _) (rule5 _ _ _) = (refl, refl)
  fires_one l L r s w v gs hs (rule6 _ _ _) (rule6 _ _ _) = (refl, refl)
  fires_one l L r s w v gs hs (rule8 _ _ _) (rule8 _ _ _) = (refl, refl)
  fires_one l L r s w v gs hs (rule9 _ _ _) (rule9 _ _ _) = (refl, refl)
  fires_one l L r s w v gs hs (rule10 _ _ _ _) (rule10 _ _ _ _) = (refl, refl)
  fires_one l L r s w v gs hs (rule11 _ _ _ _) (rule11 _ _ _ _) = (refl, refl)
  fires_one l L r s w v gs hs (rule13 _ _ _) (rule13 _ _ _) = (refl, refl)
  fires_one l L r s w v gs hs (rule14 _ _ _) (rule14 _ _ _) = (refl, refl)
  fires_one l L r s w v gs hs (rule15 _ _ _) (rule15 _ _ _) = (refl, refl)
  fires_one l L r s w v gs hs (rule16 _ _ _) (rule16 _ _ _) = (refl, refl)
  fires_one l L r s w v gs hs (rule17 _ _ _) (rule17 _ _ _) = (refl, refl)
  fires_one l L r s w v gs hs (rule18 _ _ _ _) (rule18 _ _ _ _) = (refl, refl)
  fires_one l L r s w v gs hs (rule7 _ _) (rule7 _ _) = (refl, refl)
  fires_one l L r s w v gs hs (rule12 _ _ _ _ _ _) (rule12 _ _ _ _ _ _) = (refl, refl)
  fires_one l L r s w v gs hs (rule19 _ by_list _ _) (rule19 _ by_list _ _) = (refl, refl)
  fires_one l L r s w v gs hs (rule19 _ by_interval _ _) (rule19 _ by_interval _ _) = (refl, refl)
  fires_one l L r s w v gs hs (rule20 {es = es} {ds = ds} by_list _ _ _ o) (rule20 {ds = fs} by_list _ _ _ p) = (refl, ap (map (λ (e : Term). Same (term s) e ∷ [])) (sym ((classes (map (root b) es) ds).0 o) ∙ (classes (map (root b) es) fs).0 p))
  fires_one l L r s w v gs hs (rule20 {es = es} {ds = ds} by_interval _ _ _ o) (rule20 {ds = fs} by_interval _ _ _ p) = (refl, ap (map (λ (e : Term). Same (term s) e ∷ [])) (sym ((classes (map (root b) es) ds).0 o) ∙ (classes (map (root b) es) fs).0 p))
