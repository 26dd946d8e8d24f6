-- How many children a step has: distinct classes of n terms are at most n.
use mathlib.Core.Path.{◌≡◌, refl, subst}
use mathlib.Core.Bool.{Bool, true, false, not}
use mathlib.Core.Option.{Option, none, some}
use mathlib.Core.List.{List, [], ◌∷◌}
use Prim.Native.Nat.{ℕ, zero, suc, ◌<◌, ◌≤◌, zero-le}
use native.Mathlib.Omega.{arith}
use lib.ListN.{length}
use lib.Dec.{eqb}
use borrow.Author.Tests.{eqb-true, eqb-false}
use Rattle.calculus.specs.Lists.{keep, Each, picked}
use Rattle.calculus.specs.Terms.{Term}
use Rattle.calculus.specs.Search.{distinct}
use Rattle.calculus.proofs.Bools.{each_imp, not_t}
use Rattle.calculus.proofs.AddingFacts.{each_keep, each_distinct}
use Rattle.calculus.proofs.Sequences.{keep_each, keep_all}

abbrev other : ℕ → Term → Bool
other a y = not (eqb y.index a)

-- no two are the same term
abbrev AllDifferent : List Term → Type 0
AllDifferent [] = Unit {0}
AllDifferent (x ∷ xs) = Each (λ y. other x.index y ≡ true) xs × AllDifferent xs

keep_different : (p : Term → Bool) (xs : List Term) → AllDifferent xs → AllDifferent (keep p xs)
keep_different p [] d = tt
keep_different p (x ∷ xs) d = go (p x) refl (keep_different p xs d.1)
  where
    go : (t : Bool) → p x ≡ t → AllDifferent (keep p xs) → AllDifferent (keep p (x ∷ xs))
    go true q ih = rw q (each_keep (λ y. other x.index y ≡ true) p xs d.0, ih)
    go false q ih = rw q ih

distinct_different : (xs : List Term) → AllDifferent (distinct xs)
distinct_different [] = tt
distinct_different (x ∷ xs) = (
  each_imp (λ y. Unit {0} × (other x.index y ≡ true)) (λ y. other x.index y ≡ true) (keep (other x.index) (distinct xs)) (λ y q. q.1) (keep_each (λ _. Unit {0}) (other x.index) (distinct xs) (every (distinct xs))),
  keep_different (other x.index) (distinct xs) (distinct_different xs),
)
  where
    every : (ys : List Term) → Each (λ _. Unit {0}) ys
    every [] = tt
    every (y ∷ ys) = (tt, every ys)

-- at most one of them is term number a
one_gone : (a : ℕ) (xs : List Term) → AllDifferent xs → length xs ≤ suc (length (keep (other a) xs))
one_gone a [] d = zero-le
one_gone a (x ∷ xs) d = go (eqb x.index a) refl (one_gone a xs d.1)
  where
    go : (t : Bool) → eqb x.index a ≡ t → length xs ≤ suc (length (keep (other a) xs)) → suc (length xs) ≤ suc (length (keep (other a) (x ∷ xs)))
    go true q ih =
        let same : Each (λ y. other a y ≡ true) xs = subst (λ (z : ℕ). Each (λ y. other z y ≡ true) xs) (eqb-true x.index a q) d.0 in
        rw (q, keep_all (other a) xs same) (omega arith)
    go false q ih = rw q (omega arith)

pigeonhole : (n : ℕ) (xs : List Term) → AllDifferent xs → Each (λ x. x.index < n) xs → length xs ≤ n
pigeonhole zero [] d e = zero-le
pigeonhole zero (x ∷ xs) d e = absurd (omega (arith, e.0))
pigeonhole (suc n) xs d e =
    omega (
      arith,
      one_gone n xs d,
      pigeonhole n (keep (other n) xs) (keep_different (other n) xs d)
          (each_imp (λ x. (x.index < suc n) × (other n x ≡ true)) (λ x. x.index < n) (keep (other n) xs) below (keep_each (λ x. x.index < suc n) (other n) xs e)),
    )
  where
    below : (x : Term) → (x.index < suc n) × (other n x ≡ true) → x.index < n
    below x q = omega (arith, q.0, eqb-false x.index n (not_t (eqb x.index n) q.1))

pub distinct_few : (n : ℕ) (xs : List Term) → Each (λ x. x.index < n) xs → length (distinct xs) ≤ n
distinct_few n xs e = pigeonhole n (distinct xs) (distinct_different xs) (each_distinct (λ x. x.index < n) xs e)

-- what is picked is no more than what there was
pub picked_few : {A B : Type 0} (f : A → Option B) (xs : List A) → length (picked f xs) ≤ length xs
picked_few f [] = zero-le
picked_few f (x ∷ xs) = go (f x) refl (picked_few f xs)
  where
    go : (o : Option _) → f x ≡ o → length (picked f xs) ≤ length xs → length (picked f (x ∷ xs)) ≤ suc (length xs)
    go none q ih = rw (q, picked) (omega arith)
    go (some y) q ih = rw (q, picked) (omega arith)
