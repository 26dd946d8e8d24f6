-- Laws of `picked`: by numbers, of images, and of a list's distinct terms.
use mathlib.Core.Path.{◌≡◌, refl, sym, ◌∙◌, ap, fun_ext}
use mathlib.Core.Bool.{Bool, true, false, ◌&&◌, ◌||◌, not, cond, false≢true, or_assoc, and_comm}
use mathlib.Core.Option.{Option, none, some}
use mathlib.Core.List.{List, [], ◌∷◌, map}
use Prim.Native.Nat.{ℕ, zero, suc, ◌+◌, ◌<◌, ◌≤◌}
use native.Mathlib.Omega.{arith}
use native.Mathlib.Decide.{ℕ_discrete}
use lib.ListN.{length, get_or, take}
use lib.Dec.{eqb}
use Rattle.calculus.specs.Lists.{up_from, any, keep, picked, Some, here, there}
use Rattle.calculus.specs.Terms.{Term}
use Rattle.calculus.specs.Search.{distinct}
use Rattle.calculus.proofs.Bools.{eqb_flip, each_is_all}
use Rattle.calculus.proofs.Sequences.{keep_all, keep_keep}

module _ {X Y : Type 0} where
  pub picked_map : {W : Type 0} (f : X → Option Y) (g : W → X) (xs : List W) → picked f (map g xs) ≡ picked (λ x. f (g x)) xs
  picked_map f g [] = refl
  picked_map f g (x ∷ xs) = ap (λ (r : List Y). elim (f (g x)) [ none ↦ r | some y ↦ y ∷ r ]) (picked_map f g xs)

module _ {Y : Type 0} where
  -- counted from one less
  picked_suc : (f : ℕ → Option Y) (s n : ℕ) → picked f (up_from (suc s) n) ≡ picked (λ c. f (suc c)) (up_from s n)
  picked_suc f s zero = refl
  picked_suc f s (suc n) = ap (λ (r : List Y). elim (f (suc s)) [ none ↦ r | some y ↦ y ∷ r ]) (picked_suc f (suc s) n)

  -- what there is for one of the numbers is among them
  pub picked_among : (f : ℕ → Option Y) (c : ℕ) (d : Y) → f c ≡ some d → (s n : ℕ) → s ≤ c → c < s + n → Some (λ (x : Y). x ≡ d) (picked f (up_from s n))
  picked_among f c d e s zero l h = absurd (omega arith)
  picked_among f c d e s (suc n) l h = go (ℕ_discrete c s) (f s) refl (λ q. picked_among f c d e (suc s) n q (omega arith))
    where
      go : Dec (c ≡ s) → (o : Option Y) → f s ≡ o → (suc s ≤ c → Some (λ (x : Y). x ≡ d) (picked f (up_from (suc s) n))) → Some (λ (x : Y). x ≡ d) (picked f (up_from s (suc n)))
      go (yes q) none u ih = let z : ◌≡◌ {A = Option Y} none (some d) = sym u ∙ ap f (sym q) ∙ e in let w : false ≡ true = cc in absurd (false≢true w)
      go (yes q) (some y) u ih = let z : ◌≡◌ {A = Option Y} (some y) (some d) = sym u ∙ ap f (sym q) ∙ e in let w : y ≡ d = cc in rw (u, picked) (here w)
      go (no q) none u ih = rw (u, picked) (ih (omega arith))
      go (no q) (some y) u ih = rw (u, picked) (there (ih (omega arith)))

-- ---- keeping

-- neither, by De Morgan, with the second test turned round
neither : (a x y : Bool) → x ≡ y → (not a && not x) ≡ not (a || y)
neither true x y e = refl
neither false x y e = ap not e

-- ---- distinct terms

module _ {X Y : Type 0} (g : X → Term) (f : Term → Option Y) (d : X) where
  -- entry c: none if q holds of its term, or an earlier entry has it
  abbrev entry : (Term → Bool) → List X → ℕ → Option Y
  entry q es c = cond (q (g (get_or es c d)) || any (λ (e : X). eqb (g e).index (g (get_or es c d)).index) (take c es)) none (f (g (get_or es c d)))

  unseen : (es : List X) (q : Term → Bool) → picked f (keep (λ y. not (q y)) (distinct (map g es))) ≡ picked (entry q es) (up_from 0 (length es))
  unseen [] q = refl
  unseen (e ∷ es) q = go (q (g e)) (left ∙ unseen es more ∙ right)
    where
      -- e is seen too
      more : Term → Bool
      more y = q y || eqb (g e).index y.index

      rest : List Term
      rest = keep (λ y. not (q y)) (keep (λ (y : Term). not (eqb y.index (g e).index)) (distinct (map g es)))

      left : picked f rest ≡ picked f (keep (λ y. not (more y)) (distinct (map g es)))
      left = ap (picked f)
          (sym (keep_keep (λ (y : Term). not (eqb y.index (g e).index)) (λ y. not (q y)) (λ y. not (q y) && not (eqb y.index (g e).index)) (distinct (map g es))
          (each_is_all (λ y. (not (q y) && not (eqb y.index (g e).index)) ≡ (not (eqb y.index (g e).index) && not (q y))) (λ y. and_comm (not (q y)) (not (eqb y.index (g e).index))) (distinct (map g es))))
          ∙ ap (λ (r : Term → Bool). keep r (distinct (map g es))) (fun_ext (λ y. neither (q y) (eqb y.index (g e).index) (eqb (g e).index y.index) (eqb_flip y.index (g e).index))))

      right : picked (entry more es) (up_from 0 (length es)) ≡ picked (entry q (e ∷ es)) (up_from 1 (length es))
      right =
          ap (λ (h : ℕ → Option Y). picked h (up_from 0 (length es)))
          (fun_ext (λ c. ap (λ (t : Bool). cond t none (f (g (get_or es c d))))
          (or_assoc (q (g (get_or es c d))) (eqb (g e).index (g (get_or es c d)).index) (any (λ (x : X). eqb (g x).index (g (get_or es c d)).index) (take c es)))))
          ∙ sym (picked_suc (entry q (e ∷ es)) 0 (length es))

      go : (t : Bool) → picked f rest ≡ picked (entry q (e ∷ es)) (up_from 1 (length es))
          → picked f (cond (not t) (g e ∷ rest) rest) ≡ elim (cond (t || false) none (f (g e))) [ none ↦ picked (entry q (e ∷ es)) (up_from 1 (length es)) | some y ↦ y ∷ picked (entry q (e ∷ es)) (up_from 1 (length es)) ]
      go true h = h
      go false h = ap (λ (r : List Y). elim (f (g e)) [ none ↦ r | some y ↦ y ∷ r ]) h

  -- the distinct terms of a list by the numbers of its entries: an entry whose term stood before gives none
  pub distinct_picked : (es : List X) → picked f (distinct (map g es)) ≡ picked (λ (c : ℕ). cond (any (λ (e : X). eqb (g e).index (g (get_or es c d)).index) (take c es)) none (f (g (get_or es c d)))) (up_from 0 (length es))
  distinct_picked es = ap (picked f) (sym (keep_all (λ _. true) (distinct (map g es)) (each_is_all (λ _. true ≡ true) (λ _. refl) (distinct (map g es))))) ∙ unseen es (λ _. false)
