-- A search through a list, part by part: what loops over constraints, rules and roots need.
use mathlib.Core.Path.{◌≡◌, refl, sym, ◌∙◌, ap}
use mathlib.Core.Bool.{Bool, true, false}
use mathlib.Core.Option.{none, some}
use mathlib.Core.List.{List, [], ◌∷◌, ◌++◌, append-nil}
use Rattle.calculus.specs.Lists.{first, Each}

module _ {X : Type 0} (p : X → Bool) where
  -- what fails is passed over, and what passes ends the search
  pub first_skip : (xs ys : List X) → Each (λ x. p x ≡ false) xs → first p (xs ++ ys) ≡ first p ys
  first_skip [] ys e = refl
  first_skip (x ∷ xs) ys e = rw (e.0, first) (first_skip xs ys e.1)

  pub none_found : (xs : List X) → Each (λ x. p x ≡ false) xs → first p xs ≡ none
  none_found xs e = ap (first p) (sym (append-nil xs)) ∙ first_skip xs [] e

  pub first_stop : (x : X) (xs : List X) → p x ≡ true → first p (x ∷ xs) ≡ some x
  first_stop x xs e = rw (e, first)

  pub first_next : (x : X) (xs : List X) → p x ≡ false → first p (x ∷ xs) ≡ first p xs
  first_next x xs e = rw (e, first)

  pub first_left : (xs ys : List X) (x : X) → first p xs ≡ some x → first p (xs ++ ys) ≡ some x
  first_left [] ys x e = cc
  first_left (z ∷ zs) ys x e = go (p z) refl (first_left zs ys x)
    where
      go : (b : Bool) → p z ≡ b → (first p zs ≡ some x → first p (zs ++ ys) ≡ some x) → first p (z ∷ (zs ++ ys)) ≡ some x
      go true q ih = rw (q, first) (rw (q, first) at e)
      go false q ih = rw (q, first) (ih (rw (q, first) at e))

  pub first_none_app : (xs ys : List X) → first p xs ≡ none → first p (xs ++ ys) ≡ first p ys
  first_none_app [] ys e = refl
  first_none_app (z ∷ zs) ys e = go (p z) refl (first_none_app zs ys)
    where
      go : (b : Bool) → p z ≡ b → (first p zs ≡ none → first p (zs ++ ys) ≡ first p ys) → first p (z ∷ (zs ++ ys)) ≡ first p ys
      go true q ih = let w : some z ≡ none = rw (q, first) at e in cc
      go false q ih = rw (q, first) (ih (rw (q, first) at e))
