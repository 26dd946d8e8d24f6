-- The children of a step as relations, both ways: facts asserted one after the other, children that do not conflict, and the distinct classes of entries.
use mathlib.Core.Path.{◌≡◌, refl, sym, ◌∙◌, ap, subst}
use mathlib.Core.Logic.{◌⊎◌, inl, inr, ◌↔◌}
use mathlib.Core.Bool.{Bool, true, false, not}
use mathlib.Core.Option.{Option, none, some}
use mathlib.Core.List.{List, [], ◌∷◌}
use lib.Dec.{eqb}
use borrow.Author.Tests.{eq-eqb}
use Rattle.calculus.specs.Lists.{keep, Some, here, there, picked}
use Rattle.calculus.specs.Terms.{Term}
use Rattle.calculus.specs.Branch.{Branch, Fact, assert, assert_all}
use Rattle.calculus.specs.Search.{distinct}
use Rattle.calculus.specs.Order.{Once, none_more, again, anew, AssertsAll, all_asserted, one_conflicts, one_asserted, Leaves, none_left, child_dropped, child_left}
use Rattle.calculus.specs.Demands.{Children}
use Rattle.calculus.proofs.Bools.{clash}
use Rattle.calculus.proofs.AtNumber.{term_eqb}

-- ---- the distinct classes: those of a list that were not seen

-- those of a list that were not seen before
abbrev unseen : List Term → List Term → List Term
unseen [] l = l
unseen (s ∷ seen) l = unseen seen (keep (λ (y : Term). not (eqb y.index s.index)) l)

abbrev other : Term → Term → Bool
other s y = not (eqb y.index s.index)

keep_swap : (p q : Term → Bool) (l : List Term) → keep p (keep q l) ≡ keep q (keep p l)
keep_swap p q [] = refl
keep_swap p q (x ∷ xs) = go (p x) (q x) refl refl (keep_swap p q xs)
  where
    go : (a c : Bool) → p x ≡ a → q x ≡ c → keep p (keep q xs) ≡ keep q (keep p xs) → keep p (keep q (x ∷ xs)) ≡ keep q (keep p (x ∷ xs))
    go true true u v ih = rw (u, v, u) (ap (λ (l : List Term). x ∷ l) ih)
    go true false u v ih = rw (u, v, ih)
    go false true u v ih = rw (u, v, u, ih)
    go false false u v ih = rw (u, v, ih)

keep_twice : (p : Term → Bool) (l : List Term) → keep p (keep p l) ≡ keep p l
keep_twice p [] = refl
keep_twice p (x ∷ xs) = go (p x) refl (keep_twice p xs)
  where
    go : (a : Bool) → p x ≡ a → keep p (keep p xs) ≡ keep p xs → keep p (keep p (x ∷ xs)) ≡ keep p (x ∷ xs)
    go true u ih = rw (u, u) (ap (λ (l : List Term). x ∷ l) ih)
    go false u ih = rw (u, ih)

-- what was seen need not be taken out again
unseen_out : (e : Term) (seen l : List Term) → Some (λ x. x ≡ e) seen → unseen seen (keep (other e) l) ≡ unseen seen l
unseen_out e seen l (here {x = s} {xs = more} q) = ap (unseen more) (ap (λ (x : Term). keep (other s) (keep (other x) l)) (sym q) ∙ keep_twice (other s) l)
unseen_out e seen l (there {x = s} {xs = more} q) = ap (unseen more) (keep_swap (other s) (other e) l) ∙ unseen_out e more (keep (other s) l) q

-- a term that was seen is passed over, another stays
unseen_old : (e : Term) (seen l : List Term) → Some (λ x. x ≡ e) seen → unseen seen (e ∷ l) ≡ unseen seen l
unseen_old e seen l (here {x = s} {xs = more} q) = rw (eq-eqb e.index s.index (ap (λ (x : Term). x.index) (sym q)))
unseen_old e seen l (there {x = s} {xs = more} q) = go (eqb e.index s.index) refl (unseen_old e more (keep (other s) l) q)
  where
    go : (t : Bool) → eqb e.index s.index ≡ t → unseen more (e ∷ keep (other s) l) ≡ unseen more (keep (other s) l) → unseen (s ∷ more) (e ∷ l) ≡ unseen (s ∷ more) l
    go true u ih = rw u
    go false u ih = rw u ih

unseen_new : (seen : List Term) (e : Term) (l : List Term) → ¬ Some (λ x. x ≡ e) seen → unseen seen (e ∷ l) ≡ e ∷ unseen seen l
unseen_new [] e l n = refl
unseen_new (s ∷ seen) e l n = go (eqb e.index s.index) refl (unseen_new seen e (keep (other s) l) (λ q. n (there q)))
  where
    go : (t : Bool) → eqb e.index s.index ≡ t → unseen seen (e ∷ keep (other s) l) ≡ e ∷ unseen seen (keep (other s) l) → unseen (s ∷ seen) (e ∷ l) ≡ e ∷ unseen (s ∷ seen) l
    go true u ih = absurd (n (here (sym (term_eqb e s u))))
    go false u ih = rw u ih

seen? : (seen : List Term) (e : Term) → Some (λ x. x ≡ e) seen ⊎ ¬ Some (λ x. x ≡ e) seen
seen? [] e = inr (λ s. elim s [ ])
seen? (s ∷ seen) e = go (eqb s.index e.index) refl (seen? seen e)
  where
    cases : Some (λ x. x ≡ e) (s ∷ seen) → (s ≡ e) ⊎ Some (λ x. x ≡ e) seen
    cases (here q) = inl q
    cases (there q) = inr q

    none : eqb s.index e.index ≡ false → ¬ Some (λ x. x ≡ e) seen → (s ≡ e) ⊎ Some (λ x. x ≡ e) seen → ⊥
    none u n (inl q) = clash (eq-eqb s.index e.index (ap (λ (x : Term). x.index) q)) u
    none u n (inr q) = n q

    go : (t : Bool) → eqb s.index e.index ≡ t → Some (λ x. x ≡ e) seen ⊎ ¬ Some (λ x. x ≡ e) seen → Some (λ x. x ≡ e) (s ∷ seen) ⊎ ¬ Some (λ x. x ≡ e) (s ∷ seen)
    go true u r = inl (here (term_eqb s e u))
    go false u (inl q) = inl (there q)
    go false u (inr n) = inr (λ q. none u n (cases q))

once : (es seen : List Term) → Once seen es (unseen seen (distinct es))
once [] seen = subst (Once seen []) (sym (nothing seen)) none_more
  where
    nothing : (seen : List Term) → unseen seen [] ≡ []
    nothing [] = refl
    nothing (s ∷ seen) = nothing seen
once (e ∷ es) seen = go (seen? seen e) (once es seen) (once es (e ∷ seen))
  where
    go : Some (λ x. x ≡ e) seen ⊎ ¬ Some (λ x. x ≡ e) seen → Once seen es (unseen seen (distinct es)) → Once (e ∷ seen) es (unseen (e ∷ seen) (distinct es)) → Once seen (e ∷ es) (unseen seen (distinct (e ∷ es)))
    go (inl q) ih more = subst (Once seen (e ∷ es)) (sym (unseen_old e seen (keep (other e) (distinct es)) q ∙ unseen_out e seen (distinct es) q)) (again q ih)
    go (inr n) ih more = subst (Once seen (e ∷ es)) (sym (unseen_new seen e (keep (other e) (distinct es)) n)) (anew n more)

-- no two lists are the terms of es that were not seen
once_one : (seen es ds fs : List Term) → Once seen es ds → Once seen es fs → ds ≡ fs
once_one seen es ds fs none_more none_more = refl
once_one seen es ds fs (again {es = more} q o) (again r p) = once_one seen more ds fs o p
once_one seen es ds fs (again q o) (anew n p) = absurd (n q)
once_one seen es ds fs (anew n o) (again q p) = absurd (n q)
once_one seen es ds fs (anew {es = more} {ds = gs} {e = e} n o) (anew {ds = hs} m p) = ap (λ (l : List Term). e ∷ l) (once_one (e ∷ seen) more gs hs o p)

pub classes : (es ds : List Term) → Once [] es ds ↔ (distinct es ≡ ds)
classes es ds = ((λ o. once_one [] es (distinct es) ds (once es []) o), λ e. subst (Once [] es) e (once es []))

-- ---- facts and children

module _ (constants : List Term) where
  asserts_all : (b : Branch) (fs : List Fact) (o : Option Branch) → AssertsAll constants b fs o → assert_all constants b fs ≡ o
  asserts_all b fs o all_asserted = refl
  asserts_all b fs o (one_conflicts q) = rw (q, assert_all) refl
  asserts_all b fs o (one_asserted {c = c} {fs = gs} q a) = rw (q, assert_all) (asserts_all c gs o a)

  all_asserts : (fs : List Fact) (b : Branch) → AssertsAll constants b fs (assert_all constants b fs)
  all_asserts [] b = all_asserted
  all_asserts (f ∷ fs) b = go (assert constants b f) refl (all_asserts fs)
    where
      go : (o : Option Branch) → assert constants b f ≡ o → ((c : Branch) → AssertsAll constants c fs (assert_all constants c fs)) → AssertsAll constants b (f ∷ fs) (assert_all constants b (f ∷ fs))
      go none q ih = rw (q, assert_all) (one_conflicts q)
      go (some c) q ih = rw (q, assert_all) (one_asserted q (ih c))

  leaves_picked : (b : Branch) (gs : List (List Fact)) (cs : List Branch) → Leaves constants b gs cs → picked (assert_all constants b) gs ≡ cs
  leaves_picked b gs cs none_left = refl
  leaves_picked b gs cs (child_dropped {fs = fs} {gs = hs} a l) = rw (asserts_all b fs none a, picked) (leaves_picked b hs cs l)
  leaves_picked b gs cs (child_left {fs = fs} {c = c} {gs = hs} {cs = ds} a l) = rw (asserts_all b fs (some c) a, picked) (ap (λ (x : List Branch). c ∷ x) (leaves_picked b hs ds l))

  picked_leaves : (b : Branch) (gs : List (List Fact)) → Leaves constants b gs (picked (assert_all constants b) gs)
  picked_leaves b [] = none_left
  picked_leaves b (fs ∷ gs) = go (assert_all constants b fs) refl (picked_leaves b gs)
    where
      go : (o : Option Branch) → assert_all constants b fs ≡ o → Leaves constants b gs (picked (assert_all constants b) gs) → Leaves constants b (fs ∷ gs) (picked (assert_all constants b) (fs ∷ gs))
      go none q ih = rw (q, picked) (child_dropped (subst (AssertsAll constants b fs) q (all_asserts fs b)) ih)
      go (some c) q ih = rw (q, picked) (child_left (subst (AssertsAll constants b fs) q (all_asserts fs b)) ih)

pub children : Children
children = (
  (λ constants b. (
    (λ fs o. (asserts_all constants b fs o, λ e. subst (AssertsAll constants b fs) e (all_asserts constants fs b))),
    (λ gs cs. (leaves_picked constants b gs cs, λ e. subst (Leaves constants b gs) e (picked_leaves constants b gs))),
  )),
  classes,
)
