-- Laws of lists: numbers from a start upward, what is kept, the places of a list, and images.
use mathlib.Core.Path.{◌≡◌, refl, sym, ap, ◌∙◌, subst}
use mathlib.Core.Logic.{inl, inr}
use mathlib.Core.Bool.{Bool, true, false, ◌&&◌}
use mathlib.Core.List.{List, [], ◌∷◌, map}
use Prim.Native.Nat.{ℕ, zero, suc, ◌+◌, ◌-◌, ◌<◌, ◌≤◌, zero-le, suc-le-suc}
use native.Mathlib.Omega.{arith}
use native.Mathlib.Decide.{ℕ_discrete}
use native.Mathlib.Nat.{le_of_suc-le-suc}
use lib.ListN.{length, get_or, replicate, length-map}
use lib.Dec.{eqb}
use lib.IntN.{ℤ, pos}
use borrow.Author.Tests.{eqb-true}
use Rattle.calculus.specs.Lists.{keep, up_from, Each}
use Rattle.calculus.specs.Terms.{Term, term, terms_from}
use Rattle.calculus.specs.Meaning.{◌∈◌}
use Rattle.calculus.proofs.Bools.{clash, each_imp, each_map, map_each}

module _ (P : ℕ → Type 0) where
  pub up_each : (s n : ℕ) → ((t : ℕ) → s ≤ t → t < s + n → P t) → Each P (up_from s n)
  up_each s zero f = tt
  up_each s (suc n) f = (f s (omega arith) (omega arith), up_each (suc s) n (λ t l h. f t (omega arith) (omega arith)))

  pub up_at : (s n : ℕ) → Each P (up_from s n) → (t : ℕ) → s ≤ t → t < s + n → P t
  up_at s zero e t l h = absurd (omega arith)
  up_at s (suc n) e t l h = go (ℕ_discrete t s) (λ q. up_at (suc s) n e.1 t q (omega arith))
    where
      go : Dec (t ≡ s) → (suc s ≤ t → P t) → P t
      go (yes q) f = subst P (sym q) e.0
      go (no q) f = f (omega arith)

pub up_length : (s n : ℕ) → length (up_from s n) ≡ n
up_length s zero = refl
up_length s (suc n) = ap suc (up_length (suc s) n)

pub up_get_d : (s n i d : ℕ) → d ≡ s + i → get_or (up_from s n) i d ≡ d
up_get_d s zero i d e = refl
up_get_d s (suc n) zero d e = omega arith
up_get_d s (suc n) (suc i) d e = up_get_d (suc s) n i d (omega arith)

pub zeros : (n h : ℕ) → ◌≡◌ {A = ℕ} (get_or (replicate n 0) h 0) 0
zeros zero h = refl
zeros (suc n) zero = refl
zeros (suc n) (suc h) = zeros n h

pub up_more : (i k : ℕ) → i < k → up_from i (k - i) ≡ i ∷ up_from (i + 1) (k - (i + 1))
up_more i k l =
    let e : k - i ≡ suc (k - (i + 1)) = omega arith in
    let s : suc i ≡ i + 1 = omega arith in
    ap (up_from i) e ∙ ap (λ (j : ℕ). i ∷ up_from j (k - (i + 1))) s

pub up_done : (i k : ℕ) → k ≤ i → up_from i (k - i) ≡ []
up_done i k l = let e : k - i ≡ 0 = omega arith in ap (up_from i) e

-- a value for each number: how many, and the one at a place
module _ {X : Type 0} (f : ℕ → X) where
  pub long : (n : ℕ) → length (map f (up_from 0 n)) ≡ n
  long n = length-map (up_from 0 n) f ∙ up_length 0 n

  pub at : (s n i j : ℕ) (d : X) → i < n → j ≡ s + i → get_or (map f (up_from s n)) i d ≡ f j
  at s zero i j d l e = absurd (omega arith)
  at s (suc n) zero j d l e = ap f (omega arith)
  at s (suc n) (suc i) j d l e = at (suc s) n i j d (omega arith) (omega arith)

module _ (P : Term → Type 0) where
  pub terms_each : (s n : ℕ) → ((t : ℕ) → s ≤ t → t < s + n → P (term t)) → Each P (terms_from s n)
  terms_each s n f = each_map P term (up_from s n) (up_each (λ t. P (term t)) s n f)

  pub terms_at : (s n : ℕ) → Each P (terms_from s n) → (t : ℕ) → s ≤ t → t < s + n → P (term t)
  terms_at s n e t l h = up_at (λ t. P (term t)) s n (map_each P term (up_from s n) e) t l h

module _ {X : Type 0} (P : X → Type 0) (p : X → Bool) where
  -- what is kept passes the test, and what passes it is kept
  pub keep_each : (l : List X) → Each P l → Each (λ x. P x × (p x ≡ true)) (keep p l)
  keep_each [] e = tt
  keep_each (x ∷ xs) e = go (p x) refl (keep_each xs e.1)
    where
      go : (t : Bool) → p x ≡ t → Each (λ x. P x × (p x ≡ true)) (keep p xs) → Each (λ x. P x × (p x ≡ true)) (keep p (x ∷ xs))
      go true q ih = rw q ((e.0, q), ih)
      go false q ih = rw q ih

  pub keep_at : (l : List X) → Each P (keep p l) → Each (λ x. p x ≡ true → P x) l
  keep_at [] e = tt
  keep_at (x ∷ xs) e = go (p x) refl (keep_at xs)
    where
      go : (t : Bool) → p x ≡ t → (Each P (keep p xs) → Each (λ x. p x ≡ true → P x) xs) → (p x ≡ true → P x) × Each (λ x. p x ≡ true → P x) xs
      go true q ih = let e' : P x × Each P (keep p xs) = rw q at e in (λ _. e'.0, ih e'.1)
      go false q ih = (λ z. clash z q, ih (rw q at e))

pub keep_all : {X : Type 0} (p : X → Bool) (xs : List X) → Each (λ x. p x ≡ true) xs → keep p xs ≡ xs
keep_all p [] e = refl
keep_all {X} p (x ∷ xs) e = rw e.0 (ap (λ (l : List X). x ∷ l) (keep_all p xs e.1))

-- one test after another
module _ {X : Type 0} (p q s : X → Bool) where
  pub keep_keep : (xs : List X) → Each (λ x. s x ≡ (p x && q x)) xs → keep s xs ≡ keep q (keep p xs)
  keep_keep [] e = refl
  keep_keep (x ∷ xs) e = go (p x) (q x) refl refl (keep_keep xs e.1)
    where
      go : (a c : Bool) → p x ≡ a → q x ≡ c → keep s xs ≡ keep q (keep p xs) → keep s (x ∷ xs) ≡ keep q (keep p (x ∷ xs))
      go true true u v ih = rw (e.0, u, v, ih)
      go true false u v ih = rw (e.0, u, v, ih)
      go false c u v ih = rw (e.0, u, ih)

module _ {A : Type 0} (P : A → Type 0) where
  pub each_at : (xs : List A) (d : A) → Each P xs → (p : ℕ) → p < length xs → P (get_or xs p d)
  each_at [] d e p l = absurd (omega arith)
  each_at (x ∷ xs) d e zero l = e.0
  each_at (x ∷ xs) d e (suc p) l = each_at xs d e.1 p (le_of_suc-le-suc l)

  pub at_each : (xs : List A) (d : A) → ((p : ℕ) → p < length xs → P (get_or xs p d)) → Each P xs
  at_each [] d h = tt
  at_each (x ∷ xs) d h = (h 0 (suc-le-suc zero-le), at_each xs d (λ p l. h (suc p) (suc-le-suc l)))

-- below the length the default plays no part
pub any_default : (l : List ℕ) (i d e : ℕ) → i < length l → get_or l i d ≡ get_or l i e
any_default [] i d e q = absurd (omega arith)
any_default (x ∷ xs) zero d e q = refl
any_default (x ∷ xs) (suc i) d e q = any_default xs i d e (le_of_suc-le-suc q)

pub none_left : (bs : List ℕ) → eqb (length bs) 0 ≡ true → bs ≡ []
none_left [] e = refl
none_left (b ∷ bs) e = absurd (omega (arith, eqb-true (length (b ∷ bs)) 0 e))

-- ---- terms and their numbers

pub index_term : (xs : List ℕ) → map (λ (e : Term). e.index) (map term xs) ≡ xs
index_term [] = refl
index_term (x ∷ xs) = ap (λ (l : List ℕ). x ∷ l) (index_term xs)

pub term_index : (es : List Term) → map term (map (λ (e : Term). e.index) es) ≡ es
term_index [] = refl
term_index (e ∷ es) = ap (λ (l : List Term). e ∷ l) (term_index es)

-- a member of a list stands at a place, and what stands at a place is a member
pub get_d_in : (cs : List ℤ) (p : ℕ) → p < length cs → get_or cs p (pos 0) ∈ cs
get_d_in [] p l = absurd (omega arith)
get_d_in (c ∷ cs) zero l = inl refl
get_d_in (c ∷ cs) (suc p) l = inr (get_d_in cs p (le_of_suc-le-suc l))

pub place_of : (cs : List ℤ) (x : ℤ) → x ∈ cs → (p : ℕ) × (p < length cs) × (x ≡ get_or cs p (pos 0))
place_of [] x m = absurd m
place_of (c ∷ cs) x (inl e) = (zero, suc-le-suc zero-le, e)
place_of (c ∷ cs) x (inr m) = let r = place_of cs x m in (suc r.0, suc-le-suc r.1, r.2)

-- a member of the image comes from an element, and each element has its image
pub from_image : (P : Term → Type 0) (f : Term → ℤ) (l : List Term) (x : ℤ) → Each P l → x ∈ map f l → (h : Term) × P h × (x ≡ f h)
from_image P f [] x e m = absurd m
from_image P f (h ∷ hs) x e (inl q) = (h, e.0, q)
from_image P f (h ∷ hs) x e (inr q) = from_image P f hs x e.1 q

pub image_of : (f : Term → ℤ) (es : List Term) → Each (λ e. f e ∈ map f es) es
image_of f [] = tt
image_of f (e ∷ es) = (inl refl, each_imp (λ j. f j ∈ map f es) (λ j. f j ∈ map f (e ∷ es)) es (λ j q. inr q) (image_of f es))
