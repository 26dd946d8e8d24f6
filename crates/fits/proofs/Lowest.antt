-- The lowest bit of a word as the first of a search: a word fits where its bits are the roots at which the rule applies.
use mathlib.Core.Path.{◌≡◌, refl, sym, ◌∙◌, ap, ap₂}
use mathlib.Core.Bool.{Bool, true, false, ◌&&◌, cond, and-true, and-false}
use mathlib.Core.Option
use mathlib.Core.Option.{Option, none, some}
use mathlib.Core.List.{List, [], ◌∷◌, map}
use Prim.Native.Nat.{ℕ, zero, suc, ◌+◌, ◌<◌, ◌≤◌}
use native.Mathlib.Omega.{arith}
use native.Mathlib.Decide.{ℕ_discrete}
use lib.Dec.{eqb}
use borrow.Author.Tests.{eq-eqb, ne_eqb}
use Rattle.calculus.specs.Limits.{most_terms}
use Rattle.calculus.specs.Lists.{up_from, keep, first, bit}
use Rattle.calculus.specs.Meaning.{Constraint}
use Rattle.calculus.specs.Relations.{applies}
use Rattle.calculus.specs.Branch.{Branch, root_at, known}
use Rattle.calculus.proofs.SearchLaws.{first_stop, first_next, none_found}
use Rattle.calculus.proofs.Bools.{each_is_all}
use Rattle.places.specs.Places.{move_at, positions, first_at, roots}
use Rattle.fits.specs.Words.{Fits}

module _ {X : Type 0} where
  -- a search of what is kept
  first_keep : (q p : X → Bool) (xs : List X) → first p (keep q xs) ≡ first (λ x. q x && p x) xs
  first_keep q p [] = refl
  first_keep q p (x ∷ xs) = go (q x) refl (p x) refl (first_keep q p xs)
    where
      go : (a : Bool) → q x ≡ a → (c : Bool) → p x ≡ c → first p (keep q xs) ≡ first (λ x. q x && p x) xs → first p (keep q (x ∷ xs)) ≡ first (λ x. q x && p x) (x ∷ xs)
      go true e true f ih = rw (e, f, first)
      go true e false f ih = rw (e, f, first) ih
      go false e c f ih = rw (e, first) ih

module _ {X Y : Type 0} where
  -- the first of the images is the image of the first
  pub first_map : (p : Y → Bool) (f : X → Y) (xs : List X) → first p (map f xs) ≡ Option.map f (first (λ x. p (f x)) xs)
  first_map p f [] = refl
  first_map p f (x ∷ xs) = go (p (f x)) (first_map p f xs)
    where
      go : (t : Bool) → first p (map f xs) ≡ Option.map f (first (λ x. p (f x)) xs)
          → ◌≡◌ {A = Option Y} (elim t [ true ↦ some (f x) | false ↦ first p (map f xs) ]) (Option.map f (elim t [ true ↦ some x | false ↦ first (λ x. p (f x)) xs ]))
      go true ih = refl
      go false ih = ih

  pub map_map : {W : Type 0} (g : Y → W) (f : X → Y) (o : Option X) → Option.map g (Option.map f o) ≡ Option.map (λ x. g (f x)) o
  map_map g f none = refl
  map_map g f (some x) = refl

-- tests that agree on the numbers that are searched
pub first_range : (p q : ℕ → Bool) (s m : ℕ) → ((x : ℕ) → s ≤ x → x < s + m → p x ≡ q x) → first p (up_from s m) ≡ first q (up_from s m)
first_range p q s zero e = refl
first_range p q s (suc m) e =
    ap₂ (λ (a : Bool) (r : Option ℕ). elim a [ true ↦ some s | false ↦ r ]) (e s (omega arith) (omega arith)) (first_range p q (suc s) m (λ x l h. e x (omega arith) (omega arith)))

-- one number, if it is to be found
single_found : (r s m : ℕ) → s ≤ r → r < s + m → first (λ h. eqb h r && true) (up_from s m) ≡ some r
single_found r s zero l h = absurd (omega arith)
single_found r s (suc m) l h = go (ℕ_discrete s r) (λ k. single_found r (suc s) m k (omega arith))
  where
    go : Dec (s ≡ r) → (suc s ≤ r → first (λ h. eqb h r && true) (up_from (suc s) m) ≡ some r) → first (λ h. eqb h r && true) (up_from s (suc m)) ≡ some r
    go (yes e) ih = first_stop (λ h. eqb h r && true) s (up_from (suc s) m) (and-true (eqb s r) ∙ eq-eqb s r e) ∙ ap some e
    go (no e) ih = first_next (λ h. eqb h r && true) s (up_from (suc s) m) (and-true (eqb s r) ∙ ne_eqb s r e) ∙ ih (omega arith)

pub single : (r n : ℕ) → r < n → (c : Bool) → first (λ h. eqb h r && c) (up_from 0 n) ≡ cond c (some r) none
single r n l true = single_found r 0 n (omega arith) (omega arith)
single r n l false = none_found (λ h. eqb h r && false) (up_from 0 n) (each_is_all (λ h. (eqb h r && false) ≡ false) (λ h. and-false (eqb h r)) (up_from 0 n))

-- a test of one number
pub at_one : (f : ℕ → Bool) (h r : ℕ) → (eqb h r && f h) ≡ (eqb h r && f r)
at_one f h r = go (ℕ_discrete h r)
  where
    go : Dec (h ≡ r) → (eqb h r && f h) ≡ (eqb h r && f r)
    go (yes e) = ap (λ (x : ℕ). eqb h r && f x) e
    go (no e) = rw (ne_eqb h r e)

map_same : (g : ℕ → ℕ) → ((p : ℕ) → g p ≡ p) → (o : Option ℕ) → Option.map g o ≡ o
map_same g e none = refl
map_same g e (some p) = ap some (e p)

module _ (n : ℕ) (b : Branch) (l : Constraint) (j : ℕ) (few : n ≤ most_terms) where
  abbrev fires : ℕ → Bool
  fires p = applies (known b) (move_at b l j p).1

  -- the number of the root concerned
  abbrev about : ℕ → ℕ
  about p = (move_at b l j p).0.index

  -- a rule at one root
  pub one_fits : (r : ℕ) → positions n b l j ≡ r ∷ [] → about r ≡ r → r < n → (c : Bool) → fires r ≡ c → (w : ℕ) → ((h : ℕ) → h < most_terms → bit w h ≡ (eqb h r && c)) → Fits n b l j w
  one_fits r at g low c e w f =
      ap (λ (ps : List ℕ). Option.map about (first fires ps)) at ∙ left c e
      ∙ sym (first_range (bit w) (λ h. eqb h r && c) 0 n (λ h _ k. f h (omega arith)) ∙ single r n low c)
    where
      left : (c : Bool) → fires r ≡ c → Option.map about (first fires (r ∷ [])) ≡ cond c (some r) none
      left true e = ap (Option.map about) (first_stop fires r [] e) ∙ ap some g
      left false e = ap (Option.map about) (first_next fires r [] e)

  -- a rule at every root
  pub roots_fits : positions n b l j ≡ roots n b → ((p : ℕ) → about p ≡ p) → (w : ℕ) → ((h : ℕ) → h < most_terms → bit w h ≡ (eqb (root_at b h) h && fires h)) → Fits n b l j w
  roots_fits at g w f =
      map_same about g (first_at n b l j) ∙ ap (first fires) at ∙ first_keep (λ (h : ℕ). eqb (root_at b h) h) fires (up_from 0 n)
      ∙ sym (first_range (bit w) (λ h. eqb (root_at b h) h && fires h) 0 n (λ h _ k. f h (omega arith)))
