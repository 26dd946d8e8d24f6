-- Tests of equality, of membership and of the relations between sets.
use mathlib.Core.Path.{◌≡◌, refl, ap, subst}
use mathlib.Core.Logic.{◌⊎◌, inl, inr}
use mathlib.Core.Bool.{Bool, true, false, false≢true}
use mathlib.Core.List.{List, [], ◌∷◌}
use lib.IntN.{ℤ, pos, negsuc}
use borrow.Author.Tests.{eqb-true, eq-eqb}
use Rattle.calculus.specs.Relations.{Relation, equal, union, disjoint, subset, intersection, holds_at}
use Rattle.calculus.specs.Meaning.{◌∈◌, AtPoint, Relates}
pub use Rattle.calculus.specs.Reading.{eq_z}
pub use Rattle.calculus.specs.Check.{has}
use Rattle.calculus.proofs.Bools.{clash, or_cases, or_l, or_r}

pub eq_z_eq : (x y : ℤ) → eq_z x y ≡ true → x ≡ y
eq_z_eq (pos m) (pos n) e = ap pos (eqb-true m n e)
eq_z_eq (pos m) (negsuc n) e = absurd (false≢true e)
eq_z_eq (negsuc m) (pos n) e = absurd (false≢true e)
eq_z_eq (negsuc m) (negsuc n) e = ap negsuc (eqb-true m n e)

eq_z_refl : (x : ℤ) → eq_z x x ≡ true
eq_z_refl (pos m) = eq-eqb m m refl
eq_z_refl (negsuc m) = eq-eqb m m refl

pub eq_eq_z : (x y : ℤ) → x ≡ y → eq_z x y ≡ true
eq_eq_z x y e = subst (λ (z : ℤ). eq_z x z ≡ true) e (eq_z_refl x)

pub has_in : (l : List ℤ) (x : ℤ) → has l x ≡ true → x ∈ l
has_in [] x e = absurd (false≢true e)
has_in (y ∷ ys) x e = go (or_cases (eq_z x y) (has ys x) e) (has_in ys x)
  where
    go : (eq_z x y ≡ true) ⊎ (has ys x ≡ true) → (has ys x ≡ true → x ∈ ys) → (x ≡ y) ⊎ (x ∈ ys)
    go (inl p) ih = inl (eq_z_eq x y p)
    go (inr p) ih = inr (ih p)

pub in_has : (l : List ℤ) (x : ℤ) → x ∈ l → has l x ≡ true
in_has [] x m = absurd m
in_has (y ∷ ys) x (inl e) = or_l (has ys x) (eq_eq_z x y e)
in_has (y ∷ ys) x (inr m) = or_r (eq_z x y) (in_has ys x m)

-- a test b of a statement P
pub data Reflects (P : Type 0) : Bool → Type 0 where
  is : P → Reflects P true
  isnt : ¬ P → Reflects P false

pub reflects : (l : List ℤ) (x : ℤ) → Reflects (x ∈ l) (has l x)
reflects l x = go (has l x) refl
  where
    go : (t : Bool) → has l x ≡ t → Reflects (x ∈ l) t
    go true e = is (has_in l x e)
    go false e = isnt (λ m. clash (in_has l x m) e)

-- the relations of one element are their tests
pub point : (k : Relation) {P Q R : Type 0} {a b c : Bool} → Reflects P a → Reflects Q b → Reflects R c → Reflects (AtPoint k P Q R) (holds_at k a b c)
point equal (is p) (is q) r = is (λ _. q, λ _. p)
point equal (is p) (isnt q) r = isnt (λ h. q (h.0 p))
point equal (isnt p) (is q) r = isnt (λ h. p (h.1 q))
point equal (isnt p) (isnt q) r = is (λ x. absurd (p x), λ x. absurd (q x))
point union (is p) q (is r) = is (λ _. inl p, λ _. r)
point union (is p) q (isnt r) = isnt (λ h. r (h.1 (inl p)))
point union (isnt p) (is q) (is r) = is (λ _. inr q, λ _. r)
point union (isnt p) (is q) (isnt r) = isnt (λ h. r (h.1 (inr q)))
point union {P} {Q} (isnt p) (isnt q) (is r) = isnt (λ h. no_sum (h.0 r))
  where
    no_sum : P ⊎ Q → ⊥
    no_sum (inl x) = p x
    no_sum (inr x) = q x
point union {P} {Q} {R} (isnt p) (isnt q) (isnt r) = is (λ x. absurd (r x), no_sum)
  where
    no_sum : P ⊎ Q → R
    no_sum (inl x) = absurd (p x)
    no_sum (inr x) = absurd (q x)
point disjoint (is p) (is q) r = isnt (λ h. h (p, q))
point disjoint (is p) (isnt q) r = is (λ h. q h.1)
point disjoint (isnt p) q r = is (λ h. p h.0)
point subset (is p) (is q) r = is (λ _. q)
point subset (is p) (isnt q) r = isnt (λ h. q (h p))
point subset (isnt p) q r = is (λ x. absurd (p x))
point intersection (is p) (is q) (is r) = is (λ _. (p, q), λ _. r)
point intersection (is p) (is q) (isnt r) = isnt (λ h. r (h.1 (p, q)))
point intersection (is p) (isnt q) (is r) = isnt (λ h. q (h.0 r).1)
point intersection (is p) (isnt q) (isnt r) = is (λ x. absurd (r x), λ x. absurd (q x.1))
point intersection (isnt p) q (is r) = isnt (λ h. p (h.0 r).0)
point intersection (isnt p) q (isnt r) = is (λ x. absurd (r x), λ x. absurd (p x.0))

pub yes_of : {P : Type 0} {a : Bool} → Reflects P a → a ≡ true → P
yes_of (is p) e = p
yes_of (isnt n) e = absurd (false≢true e)

pub test_of : {P : Type 0} {a : Bool} → Reflects P a → P → a ≡ true
test_of (is p) x = refl
test_of (isnt n) x = absurd (n x)

-- a relation of sets holds exactly where its test does, of every whole number
module _ (k : Relation) (l m r : List ℤ) where
  pub relates_test : Relates k l m r → (x : ℤ) → holds_at k (has l x) (has m x) (has r x) ≡ true
  relates_test h x = test_of (point k (reflects l x) (reflects m x) (reflects r x)) (h x)

  pub test_relates : ((x : ℤ) → holds_at k (has l x) (has m x) (has r x) ≡ true) → Relates k l m r
  test_relates h x = yes_of (point k (reflects l x) (reflects m x) (reflects r x)) (h x)
