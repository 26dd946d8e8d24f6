-- The assignment check's tests are the constraints' meanings.
use mathlib.Core.Path.{◌≡◌, refl}
use mathlib.Core.Logic.{◌⊎◌, inl, inr}
use mathlib.Core.Bool.{Bool, true, false, ◌&&◌, not, false≢true}
use mathlib.Core.List.{List, [], ◌∷◌, map}
use Prim.Native.Nat.{ℕ, ◌<◌}
use lib.ListN.{length, get_or}
use lib.IntN.{ℤ, pos}
use Rattle.calculus.specs.Terms.{Term, SetVar, term}
use Rattle.calculus.specs.Lists.{all, Each}
use Rattle.calculus.specs.Relations.{Relation, holds_at, denies}
use Rattle.calculus.specs.Meaning.{Constraint, member, nonmember, same, different, relation, negation, exactly, interval, ◌∈◌, Valuation, Relates, Holds}
use Rattle.calculus.specs.Check.{has, relates?, exactly?, holds?}
use Rattle.calculus.specs.Problem.{Problem, Valid}
use Rattle.calculus.proofs.ConstraintLaws.{InScope}
use Rattle.calculus.proofs.Bools.{and_l, and_r, and_i, test, all_each}
use Rattle.calculus.proofs.Tables.{relation_none}
use Rattle.calculus.proofs.Truth.{eq_z, Reflects, is, isnt, reflects, eq_z_eq, eq_eq_z, has_in, in_has, relates_test, test_relates}
use Rattle.calculus.proofs.RuleLaws.{Lists}
use Rattle.calculus.proofs.ConstraintLaws.{all_in, interval_lists, images_in}

-- a test that is true exactly where the statement is
by_test : {P : Type 0} (b : Bool) → (b ≡ true → P) → (P → b ≡ true) → Reflects P b
by_test true f g = is (f refl)
by_test false f g = isnt (λ p. false≢true (g p))

flip : {P : Type 0} {b : Bool} → Reflects P b → Reflects (¬ P) (not b)
flip (is p) = isnt (λ n. n p)
flip (isnt n) = is n

same? : (x y : ℤ) → Reflects (x ≡ y) (eq_z x y)
same? x y = by_test (eq_z x y) (eq_z_eq x y) (eq_eq_z x y)

all_of : (p : ℤ → Bool) (l : List ℤ) → ((x : ℤ) → x ∈ l → p x ≡ true) → all p l ≡ true
all_of p [] f = refl
all_of p (y ∷ ys) f = and_i (f y (inl refl)) (all_of p ys (λ x m. f x (inr m)))

relates_is : (k : Relation) (l m r : List ℤ) → Reflects (Relates k l m r) (relates? k l m r)
relates_is k l m r = by_test (relates? k l m r) (λ e. test_relates k l m r (every_x e)) back
  where
    t : ℤ → Bool
    t x = holds_at k (has l x) (has m x) (has r x)

    back : Relates k l m r → relates? k l m r ≡ true
    back h = and_i (and_i (all_of t l (λ x _. relates_test k l m r h x)) (all_of t m (λ x _. relates_test k l m r h x))) (all_of t r (λ x _. relates_test k l m r h x))

    every_x : relates? k l m r ≡ true → (x : ℤ) → t x ≡ true
    every_x e x = by_case (test (has l x)) (test (has m x)) (test (has r x))
      where
        by_case : (has l x ≡ true) ⊎ (has l x ≡ false) → (has m x ≡ true) ⊎ (has m x ≡ false) → (has r x ≡ true) ⊎ (has r x ≡ false) → t x ≡ true
        by_case (inl a) b c = all_in t l (and_l (all t l) (all t m) (and_l (all t l && all t m) (all t r) e)) x (has_in l x a)
        by_case (inr a) (inl b) c = all_in t m (and_r (all t l) (all t m) (and_l (all t l && all t m) (all t r) e)) x (has_in m x b)
        by_case (inr a) (inr b) (inl c) = all_in t r (and_r (all t l && all t m) (all t r) e) x (has_in r x c)
        by_case (inr a) (inr b) (inr c) = rw (a, b, c) (relation_none k)

lists_is : (v : Valuation) (A : SetVar) (es : List Term) → Reflects (Lists v A es) (exactly? v A es)
lists_is v A es = by_test (exactly? v A es)
    (λ e x. (
      (λ m. has_in (map v.num es) x (all_in (has (map v.num es)) (v.members A) (and_l (all (has (map v.num es)) (v.members A)) (all (λ e. has (v.members A) (v.num e)) es) e) x m)),
      images_in v.num (v.members A) es (and_r (all (has (map v.num es)) (v.members A)) (all (λ e. has (v.members A) (v.num e)) es) e) x,
    ))
    (λ h. and_i (all_of (has (map v.num es)) (v.members A) (λ x m. in_has (map v.num es) x ((h x).0 m)))
    (all_each (λ e. has (v.members A) (v.num e)) es (each_in es (λ x m. (h x).1 m))))
  where
    each_in : (ds : List Term) → ((x : ℤ) → x ∈ map v.num ds → x ∈ v.members A) → Each (λ e. has (v.members A) (v.num e) ≡ true) ds
    each_in [] f = tt
    each_in (d ∷ ds) f = (in_has (v.members A) (v.num d) (f (v.num d) (inl refl)), each_in ds (λ x m. f x (inr m)))

module _ (prob : Problem) (acc : Valid prob) (v : Valuation) (own : (p : ℕ) → p < length prob.constants → v.num (term p) ≡ get_or prob.constants p (pos 0)) where
  pub holds_is : (l : Constraint) → InScope prob l → Reflects (Holds v l) (holds? v l)
  holds_is (member t A) a = reflects (v.members A) (v.num t)
  holds_is (nonmember t A) a = flip (reflects (v.members A) (v.num t))
  holds_is (same t u) a = same? (v.num t) (v.num u)
  holds_is (different t u) a = flip (same? (v.num t) (v.num u))
  holds_is (relation k A B C) a = relates_is k (v.members A) (v.members B) (v.members C)
  holds_is (negation k A B C w) a = flip (relates_is (denies k) (v.members A) (v.members B) (v.members C))
  holds_is (exactly A es) a = lists_is v A es
  holds_is (interval A i j es) a = go (lists_is v A es)
    where
      go : {b : Bool} → Reflects (Lists v A es) b → Reflects (Holds v (interval A i j es)) b
      go (is g) = is ((interval_lists prob acc v own A i j es a).1 g)
      go (isnt n) = isnt (λ h. n ((interval_lists prob acc v own A i j es a).0 h))
