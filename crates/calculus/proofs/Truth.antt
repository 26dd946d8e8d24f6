-- Facts' truth as tests, and what it is for values to satisfy a branch.
use mathlib.Core.Path.{◌≡◌, ap}
use mathlib.Core.Logic.{◌⊎◌, inl, inr}
use mathlib.Core.Bool.{Bool, true, not, false≢true}
use mathlib.Core.List.{List, [], ◌∷◌}
use Prim.Native.Nat.{ℕ}
use lib.Dec.{eqb}
use borrow.Author.Tests.{eqb-true, eq-eqb}
use Rattle.calculus.specs.Lists.{any, Some, here, there}
use Rattle.calculus.specs.Terms.{Term, term}
use Rattle.calculus.specs.Meaning.{Valuation}
pub use Rattle.calculus.specs.Invariants.{Is}
use Rattle.calculus.specs.Branch.{Branch, Fact, In, Out, Same, known}
pub use Rattle.calculus.proofs.Membership.{yes_of, test_of, eq_z, eq_z_eq, eq_eq_z, has, has_in, in_has, Reflects, is, isnt, reflects, relates_test, test_relates}
use Rattle.calculus.proofs.Bools.{or_cases, or_l, or_r}

-- a fact's truth
abbrev pub truth : Valuation → Fact → Bool
truth v (In t A) = has (v.members A) (v.num t)
truth v (Out t A) = not (has (v.members A) (v.num t))
truth v (Same t u) = eq_z (v.num t) (v.num u)

-- every fact that the branch knows is true
abbrev pub Sat : Valuation → Branch → Type 0
Sat v b = (f : Fact) → known b f ≡ true → truth v f ≡ true

-- different constants have different values
abbrev pub Distinct : List Term → Valuation → Type 0
Distinct k v = (i j : ℕ) → Is k i → Is k j → v.num (term i) ≡ v.num (term j) → i ≡ j

pub is_some : (k : List Term) (i : Term) → Is k i.index → Some (λ x. x ≡ i) k
is_some [] i e = absurd (false≢true e)
is_some (j ∷ k) i e = go (or_cases (eqb j.index i.index) (any (λ (j : Term). eqb j.index i.index) k) e) (is_some k i)
  where
    go : (eqb j.index i.index ≡ true) ⊎ (any (λ (j : Term). eqb j.index i.index) k ≡ true) → (any (λ (j : Term). eqb j.index i.index) k ≡ true → Some (λ x. x ≡ i) k) → Some (λ x. x ≡ i) (j ∷ k)
    go (inl q) ih = let p : j.index ≡ i.index = eqb-true j.index i.index q in here (λ x. record { index = p x })
    go (inr q) ih = there (ih q)

pub some_is : (k : List Term) (i : Term) → Some (λ x. x ≡ i) k → Is k i.index
some_is k i s = go k s
  where
    go : (k : List Term) → Some (λ x. x ≡ i) k → Is k i.index
    go k (here {x = j} {xs = js} e) = or_l (any (λ (j : Term). eqb j.index i.index) js) (eq-eqb j.index i.index (ap (λ (x : Term). x.index) e))
    go k (there {x = j} {xs = js} s) = or_r (eqb j.index i.index) (go js s)
