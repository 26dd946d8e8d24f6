-- Questions 4 and 5: letters pass where neighbours ascend and each is in the range.
use mathlib.Core.Path.{◌≡◌, refl, ap, ap₂, ◌∙◌}
use mathlib.Core.Bool.{Bool, true, false, ◌&&◌, and-true}
use mathlib.Core.List.{List, [], ◌∷◌}
use Prim.Native.Nat.{ℕ}
use lib.Dec.{leb, ltb}
use Rattle.std.proofs.lemmas.List.{map-id}
use Rattle.std.specs.List.{IsAllAdjacentAnswer, list_all}
use Rattle.calculus.specs.Reading.{letters}
use Rattle.slices.proofs.Ascending.{adjacent, adjacent_is}

module _ (lo hi : ℕ) where
  abbrev pub within : ℕ → Bool
  within a = leb lo a && leb a hi

  and_sort : (w l a r : Bool) → (l && a && (w && r)) ≡ (w && l && (a && r))
  and_sort true true a r = refl
  and_sort true false a r = refl
  and_sort false true true r = refl
  and_sort false true false r = refl
  and_sort false false a r = refl

  letters_split : (xs : List ℕ) → (adjacent ltb xs && list_all within xs) ≡ letters lo hi xs
  letters_split [] = refl
  letters_split (a ∷ []) = and-true (within a)
  letters_split (a ∷ b ∷ xs) =
      and_sort (within a) (ltb a b) (adjacent ltb (b ∷ xs)) (list_all within (b ∷ xs))
      ∙ ap (λ (t : Bool). within a && ltb a b && t) (letters_split (b ∷ xs))

  pub letters_are : (xs : List ℕ) (s t : Bool) → IsAllAdjacentAnswer (λ x y u. u ≡ ltb x y) xs s → t ≡ list_all within xs → (s && t) ≡ letters lo hi xs
  letters_are xs s t h e = ap₂ (λ (u w : Bool). u && w) (adjacent_is ltb (λ x. x) xs s h ∙ ap (adjacent ltb) (map-id xs)) e ∙ letters_split xs
