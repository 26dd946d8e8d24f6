-- A branch's functions at term numbers, and the equality of terms and of set variables.
use mathlib.Core.Path.{◌≡◌, ap}
use mathlib.Core.Bool.{Bool, true}
use mathlib.Core.Option.{Option}
use mathlib.Core.List.{List}
use Prim.Native.Nat.{ℕ}
use lib.Dec.{eqb}
use borrow.Author.Tests.{eqb-true, eq-eqb}
use Rattle.calculus.specs.Terms.{Term, SetVar, term}
use Rattle.calculus.specs.Branch.{Branch, inside, outside, add_inside, add_outside, merge, torn, owns, merge_roots}

abbrev pub inside_at : Branch → ℕ → SetVar → Bool
inside_at b h A = inside b (term h) A

abbrev pub outside_at : Branch → ℕ → SetVar → Bool
outside_at b h A = outside b (term h) A

abbrev pub add_in : Branch → ℕ → SetVar → Branch
add_in b h A = add_inside b (term h) A

abbrev pub add_out : Branch → ℕ → SetVar → Branch
add_out b h A = add_outside b (term h) A

abbrev pub merge_at : Branch → ℕ → ℕ → Branch
merge_at b lo hi = merge b (term lo) (term hi)

abbrev pub torn_at : Branch → ℕ → Bool
torn_at b h = torn b (term h)

abbrev pub owns_at : List Term → Branch → ℕ → Bool
owns_at k b h = owns k b (term h)

abbrev pub merge_roots_at : List Term → Branch → ℕ → ℕ → Option Branch
merge_roots_at k b lo hi = merge_roots k b (term lo) (term hi)

pub set_eqb : (A B : SetVar) → eqb A.index B.index ≡ true → A ≡ B
set_eqb A B e = let p : A.index ≡ B.index = eqb-true A.index B.index e in λ i. record { index = p i }

pub same_index : {t u : Term} → t.index ≡ u.index → t ≡ u
same_index p = λ i. record { index = p i }

pub term_eqb : (t u : Term) → eqb t.index u.index ≡ true → t ≡ u
term_eqb t u e = same_index (eqb-true t.index u.index e)

pub eqb_set : (A B : SetVar) → A ≡ B → eqb A.index B.index ≡ true
eqb_set A B e = eq-eqb A.index B.index (ap (λ (x : SetVar). x.index) e)
