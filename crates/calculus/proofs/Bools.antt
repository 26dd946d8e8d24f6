-- Laws of tests, of `all` and `any`, and tests over all Booleans.
use mathlib.Core.Path.{◌≡◌, refl, sym, ◌∙◌, ap, subst, fun_ext}
use mathlib.Core.Logic.{◌⊎◌, inl, inr}
use mathlib.Core.Bool.{Bool, true, false, ◌&&◌, ◌||◌, not, true≢false, false≢true}
use mathlib.Core.Option.{Option, none, some}
use mathlib.Core.List.{List, [], ◌∷◌, ◌++◌, map}
use Prim.Native.Nat.{ℕ, zero, suc}
use lib.ListN.{take}
use lib.Dec.{eqb}
use borrow.Author.Tests.{eqb-true, eq-eqb}
use Rattle.calculus.specs.Lists.{imp, all, any, first, Each, gather}

pub and_l : (a b : Bool) → (a && b) ≡ true → a ≡ true
and_l true b e = refl
and_l false b e = e

pub and_r : (a b : Bool) → (a && b) ≡ true → b ≡ true
and_r true b e = e
and_r false b e = absurd (false≢true e)

pub and_i : {a b : Bool} → a ≡ true → b ≡ true → (a && b) ≡ true
and_i {a} {b} p q = rw (p, q)

pub or_cases : (a b : Bool) → (a || b) ≡ true → (a ≡ true) ⊎ (b ≡ true)
or_cases true b e = inl refl
or_cases false b e = inr e

pub or_l : {a : Bool} (b : Bool) → a ≡ true → (a || b) ≡ true
or_l b p = rw p

pub or_r : (a : Bool) {b : Bool} → b ≡ true → (a || b) ≡ true
or_r true p = refl
or_r false p = p

pub or_none_l : (a b : Bool) → (a || b) ≡ false → a ≡ false
or_none_l true b e = e
or_none_l false b e = refl

pub or_none_r : (a b : Bool) → (a || b) ≡ false → b ≡ false
or_none_r true b e = absurd (true≢false e)
or_none_r false b e = e

pub not_t : (a : Bool) → not a ≡ true → a ≡ false
not_t true e = sym e
not_t false e = refl

pub not_f : (a : Bool) → not a ≡ false → a ≡ true
not_f true e = refl
not_f false e = sym e

pub imp_at : (a b : Bool) → imp a b ≡ true → a ≡ true → b ≡ true
imp_at true b e p = e
imp_at false b e p = absurd (false≢true p)

pub imp_i : (a b : Bool) → (a ≡ true → b ≡ true) → imp a b ≡ true
imp_i true b f = f refl
imp_i false b f = refl

-- a test is true or false
pub test : (a : Bool) → (a ≡ true) ⊎ (a ≡ false)
test true = inl refl
test false = inr refl

pub clash {ℓ} : {X : Type ℓ} {a : Bool} → a ≡ true → a ≡ false → X
clash p q = absurd (true≢false (sym p ∙ q))

-- two tests that are true together
pub same_test : (a b : Bool) → (a ≡ true → b ≡ true) → (b ≡ true → a ≡ true) → a ≡ b
same_test true b f g = sym (f refl)
same_test false true f g = g refl
same_test false false f g = refl

pub eqb_flip : (i j : ℕ) → eqb i j ≡ eqb j i
eqb_flip i j = same_test (eqb i j) (eqb j i) (λ e. eq-eqb j i (sym (eqb-true i j e))) (λ e. eq-eqb i j (sym (eqb-true j i e)))

-- a test of every Boolean
abbrev pub every : (Bool → Bool) → Bool
every p = p false && p true

pub every_at : (p : Bool → Bool) → every p ≡ true → (x : Bool) → p x ≡ true
every_at p e true = and_r (p false) (p true) e
every_at p e false = and_l (p false) (p true) e

abbrev pub every3 : (Bool → Bool → Bool → Bool) → Bool
every3 p = every (λ x. every (λ y. every (λ z. p x y z)))

pub every3_at : (p : Bool → Bool → Bool → Bool) → every3 p ≡ true → (x y z : Bool) → p x y z ≡ true
every3_at p e x y z = every_at (λ c. p x y c) (every_at (λ b. every (λ c. p x b c)) (every_at (λ a. every (λ b. every (λ c. p a b c))) e x) y) z

module _ {A : Type 0} where
  pub all_cong : (p q : A → Bool) (xs : List A) → ((x : A) → p x ≡ q x) → all p xs ≡ all q xs
  all_cong p q xs h = ap (λ (r : A → Bool). all r xs) (fun_ext h)

  pub each_all : (p : A → Bool) (xs : List A) → all p xs ≡ true → Each (λ x. p x ≡ true) xs
  each_all p [] e = tt
  each_all p (x ∷ xs) e = (and_l (p x) (all p xs) e, each_all p xs (and_r (p x) (all p xs) e))

  pub all_each : (p : A → Bool) (xs : List A) → Each (λ x. p x ≡ true) xs → all p xs ≡ true
  all_each p [] e = refl
  all_each p (x ∷ xs) e = and_i e.0 (all_each p xs e.1)

  pub any_imp : (p q : A → Bool) (xs : List A) → ((x : A) → p x ≡ true → q x ≡ true) → any p xs ≡ true → any q xs ≡ true
  any_imp p q [] f e = e
  any_imp p q (x ∷ xs) f e = go (or_cases (p x) (any p xs) e) (any_imp p q xs f)
    where
      go : (p x ≡ true) ⊎ (any p xs ≡ true) → (any p xs ≡ true → any q xs ≡ true) → (q x || any q xs) ≡ true
      go (inl k) ih = or_l (any q xs) (f x k)
      go (inr k) ih = or_r (q x) (ih k)

  -- what a search finds, and what it leaves
  first_none_step : (p : A → Bool) (x : A) (xs : List A) → (first p xs ≡ none → Each (λ x. p x ≡ false) xs) → (t : Bool) → p x ≡ t → first p (x ∷ xs) ≡ none → (p x ≡ false) × Each (λ x. p x ≡ false) xs
  first_none_step p x xs ih true q e = let z : ◌≡◌ {A = Option A} (some x) none = rw (q, first) at e in let w : false ≡ true = cc in absurd (false≢true w)
  first_none_step p x xs ih false q e = (q, ih (rw (q, first) at e))

  pub first_none : (p : A → Bool) (xs : List A) → first p xs ≡ none → Each (λ x. p x ≡ false) xs
  first_none p [] e = tt
  first_none p (x ∷ xs) e = first_none_step p x xs (first_none p xs) (p x) refl e

module _ {A : Type 0} (P : A → Type 0) where
  pub each_app : (xs ys : List A) → Each P xs → Each P ys → Each P (xs ++ ys)
  each_app [] ys e g = g
  each_app (x ∷ xs) ys e g = (e.0, each_app xs ys e.1 g)

  pub each_left : (xs ys : List A) → Each P (xs ++ ys) → Each P xs
  each_left [] ys e = tt
  each_left (x ∷ xs) ys e = (e.0, each_left xs ys e.1)

  pub each_right : (xs ys : List A) → Each P (xs ++ ys) → Each P ys
  each_right [] ys e = e
  each_right (x ∷ xs) ys e = each_right xs ys e.1

  pub each_take : (n : ℕ) (xs : List A) → Each P xs → Each P (take n xs)
  each_take zero xs e = tt
  each_take (suc n) [] e = tt
  each_take (suc n) (x ∷ xs) e = (e.0, each_take n xs e.1)

  pub each_is_all : ((x : A) → P x) → (xs : List A) → Each P xs
  each_is_all f [] = tt
  each_is_all f (x ∷ xs) = (f x, each_is_all f xs)

  pub each_imp : (Q : A → Type 0) (xs : List A) → ((x : A) → P x → Q x) → Each P xs → Each Q xs
  each_imp Q [] f e = tt
  each_imp Q (x ∷ xs) f e = (f x e.0, each_imp Q xs f e.1)

  pub each_zip : (Q R : A → Type 0) (xs : List A) → ((x : A) → P x → Q x → R x) → Each P xs → Each Q xs → Each R xs
  each_zip Q R [] f e g = tt
  each_zip Q R (x ∷ xs) f e g = (f x e.0 g.0, each_zip Q R xs f e.1 g.1)

  -- a search finds one that passes the test
  pub first_some : (p : A → Bool) (xs : List A) (y : A) → Each P xs → first p xs ≡ some y → P y × (p y ≡ true)
  first_some p [] y g e = absurd (none_some e)
    where
      none_some : ◌≡◌ {A = Option A} none (some y) → ⊥
      none_some z = let w : false ≡ true = cc in false≢true w
  first_some p (x ∷ xs) y g e = go (first_some p xs y g.1) (p x) refl
    where
      go : (first p xs ≡ some y → P y × (p y ≡ true)) → (t : Bool) → p x ≡ t → P y × (p y ≡ true)
      go ih true q = let s : ◌≡◌ {A = Option A} (some x) (some y) = rw (q, first) at e in let z : x ≡ y = cc in (subst P z g.0, ap p (sym z) ∙ q)
      go ih false q = ih (rw (q, first) at e)

module _ {A B : Type 0} (P : B → Type 0) where
  pub each_map : (f : A → B) (xs : List A) → Each (λ x. P (f x)) xs → Each P (map f xs)
  each_map f [] e = tt
  each_map f (x ∷ xs) e = (e.0, each_map f xs e.1)

  pub map_each : (f : A → B) (xs : List A) → Each P (map f xs) → Each (λ x. P (f x)) xs
  map_each f [] e = tt
  map_each f (x ∷ xs) e = (e.0, map_each f xs e.1)

  pub each_gather : (f : A → List B) (xs : List A) → Each (λ x. Each P (f x)) xs → Each P (gather f xs)
  each_gather f [] e = tt
  each_gather f (x ∷ xs) e = each_app P (f x) (gather f xs) e.0 (each_gather f xs e.1)

  pub gather_of_each : (f : A → List B) (xs : List A) → Each P (gather f xs) → Each (λ x. Each P (f x)) xs
  gather_of_each f [] e = tt
  gather_of_each f (x ∷ xs) e = (each_left P (f x) (gather f xs) e, gather_of_each f xs (each_right P (f x) (gather f xs) e))

module _ {A B : Type 0} where
  pub all_map : (p : B → Bool) (f : A → B) (xs : List A) → all p (map f xs) ≡ all (λ x. p (f x)) xs
  all_map p f [] = refl
  all_map p f (x ∷ xs) = ap (λ (t : Bool). p (f x) && t) (all_map p f xs)

  pub any_map : (p : B → Bool) (f : A → B) (xs : List A) → any p (map f xs) ≡ any (λ x. p (f x)) xs
  any_map p f [] = refl
  any_map p f (x ∷ xs) = ap (λ (t : Bool). p (f x) || t) (any_map p f xs)
