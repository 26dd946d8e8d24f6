-- Reading step by step: what an answer came from, and by which numbers it is refused.
use mathlib.Core.Path.{◌≡◌, refl, subst}
use mathlib.Core.Bool.{Bool, true, false, false≢true}
use Prim.Native.Nat.{ℕ}
use Rattle.calculus.specs.Reading.{Parsed, parsed, refused, ◌>>=◌, ask}

module _ {A B : Type 0} (m : Parsed A) (f : A → Parsed B) where
  pub bind_parsed : (c : B) → (m >>= f) ≡ parsed c → (a : A) × (m ≡ parsed a) × (f a ≡ parsed c)
  unfolding ◌>>=◌
  bind_parsed c e = go m e refl
    where
      go : (k : Parsed A) → (k >>= f) ≡ parsed c → m ≡ k → (a : A) × (m ≡ parsed a) × (f a ≡ parsed c)
      go (parsed a) g q = (a, q, g)
      go (refused n) g q = let w : false ≡ true = cc in absurd (false≢true w)

  pub parsed_bind : (a : A) (r : Parsed B) → m ≡ parsed a → f a ≡ r → (m >>= f) ≡ r
  unfolding ◌>>=◌
  parsed_bind a r e g = rw (e, ◌>>=◌) g

module _ {B : Type 0} (n : ℕ) (b : Bool) (f : Bool → Parsed B) where
  pub ask_parsed : (c : B) → (ask n b >>= f) ≡ parsed c → (b ≡ true) × (f true ≡ parsed c)
  unfolding ◌>>=◌ ask
  ask_parsed c e = go b refl e
    where
      go : (t : Bool) → b ≡ t → (ask n t >>= f) ≡ parsed c → (b ≡ true) × (f true ≡ parsed c)
      go true q g = (q, g)
      go false q g = let w : false ≡ true = cc in absurd (false≢true w)

  pub parsed_ask : (r : Parsed B) → b ≡ true → f true ≡ r → (ask n b >>= f) ≡ r
  unfolding ◌>>=◌ ask
  parsed_ask r e g = rw (e, ask) g

-- every number by which it is refused has the property
module _ (P : ℕ → Type 0) where
  abbrev pub Refusals : {A : Type 0} → Parsed A → Type 0
  Refusals m = (n : ℕ) → m ≡ refused n → P n

  pub parsed_refusals : {A : Type 0} (a : A) → Refusals (parsed a)
  parsed_refusals a n e = let w : false ≡ true = cc in absurd (false≢true w)

  pub refused_refusals : {A : Type 0} (k : ℕ) → P k → Refusals {A = A} (refused k)
  refused_refusals k p n e = let z : k ≡ n = cc in subst P z p

  pub bind_refusals : {A B : Type 0} (m : Parsed A) (f : A → Parsed B) → Refusals m → ((a : A) → Refusals (f a)) → Refusals (m >>= f)
  unfolding ◌>>=◌
  bind_refusals (parsed a) f h k = k a
  bind_refusals (refused n) f h k = refused_refusals n (h n refl)

  pub ask_refusals : {B : Type 0} (k : ℕ) (b : Bool) (f : Bool → Parsed B) → P k → Refusals (f true) → Refusals (ask k b >>= f)
  unfolding ◌>>=◌ ask
  ask_refusals k true f p h = h
  ask_refusals k false f p h = refused_refusals k p
