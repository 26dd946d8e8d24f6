-- By which number a parser refuses, and which bytes: closed under what parsers are made of.
use mathlib.Core.Path.{◌≡◌, refl, sym, subst}
use mathlib.Core.Logic.{◌⊎◌, inl, inr}
use mathlib.Core.Bool.{Bool, true, false}
use mathlib.Core.List.{List, [], ◌∷◌, ◌++◌}
use Prim.Native.Nat.{ℕ, ◌<◌}
use lib.ListN.{length}
use lib.Dec.{leb}
use borrow.Author.Tests.{leb-false, lt-leb}
use Rattle.calculus.specs.Reading.{Parsed, parsed, refused, ◌>>=◌, ask, byte, bytes}
use Rattle.calculus.proofs.Parsers.{Recognizes, no_refusal, stopped}

-- what is said of bytes and a number
abbrev pub Saying : Type 1
Saying = List ℕ → ℕ → Type 0

-- p refuses bytes with a number exactly where No says so
pub record Stops {B : Type 0} (No : Saying) (p : List ℕ → Parsed B) : Type 0 where
  pub says : (bs : List ℕ) (n : ℕ) → p bs ≡ refused n → No bs n
  pub does : (bs : List ℕ) (n : ℕ) → No bs n → p bs ≡ refused n

-- where there is no byte, or fewer than k; never; at question k, or after it; at one thing, or after it, as it is written
pub data NoByte : List ℕ → ℕ → Type 0 where
  no_byte : NoByte [] 2

pub data Fewer (k : ℕ) : List ℕ → ℕ → Type 0 where
  fewer : {bs : List ℕ} → length bs < k → Fewer k bs 2

abbrev pub Never : Saying
Never bs n = ⊥

pub data Asking (k : ℕ) (t : List ℕ → Bool) (No : Saying) : List ℕ → ℕ → Type 0 where
  answer_no : {bs : List ℕ} → t bs ≡ false → Asking k t No bs k
  answer_yes : {bs : List ℕ} {n : ℕ} → t bs ≡ true → No bs n → Asking k t No bs n

pub data After {A : Type 0} (Now : Saying) (W : A → List ℕ → Type 0) (Later : A → Saying) : List ℕ → ℕ → Type 0 where
  now : {bs : List ℕ} {n : ℕ} → Now bs n → After Now W Later bs n
  later : {a : A} {u v : List ℕ} {n : ℕ} → W a u → Later a v n → After Now W Later (u ++ v) n

-- ---- the parsers

pub byte_stops : Stops NoByte byte
unfolding byte
byte_stops = record { says = says; does = does }
  where
    says : (bs : List ℕ) (n : ℕ) → byte bs ≡ refused n → NoByte bs n
    says [] n e = let z : 2 ≡ n = cc in subst (NoByte []) z no_byte
    says (b ∷ bs) n e = no_refusal e

    does : (bs : List ℕ) (n : ℕ) → NoByte bs n → byte bs ≡ refused n
    does bs n no_byte = refl

pub bytes_stop : (k : ℕ) → Stops (Fewer k) (bytes k)
unfolding bytes
bytes_stop k = record { says = λ bs n. says bs n (leb k (length bs)) refl; does = does }
  where
    says : (bs : List ℕ) (n : ℕ) (t : Bool) → leb k (length bs) ≡ t → bytes k bs ≡ refused n → Fewer k bs n
    says bs n true q e = no_refusal (rw q at e)
    says bs n false q e = let r = rw q at e in let z : 2 ≡ n = cc in subst (Fewer k bs) z (fewer (leb-false k (length bs) q))

    does : (bs : List ℕ) (n : ℕ) → Fewer k bs n → bytes k bs ≡ refused n
    does bs n (fewer l) = rw (lt-leb k (length bs) l)

pub never_stops : {X : Type 0} (f : List ℕ → X) → Stops Never (λ bs. parsed (f bs))
never_stops f = record { says = λ bs n e. no_refusal e; does = λ bs n h. absurd h }

module _ {B : Type 0} {No : Saying} {p : List ℕ → Parsed B} where
  pub asking_stops : (k : ℕ) (t : List ℕ → Bool) → ((bs : List ℕ) → t bs ≡ true → Stops No p) → Stops (Asking k t No) (λ bs. ask k (t bs) >>= λ _. p bs)
  unfolding ◌>>=◌ ask
  asking_stops k t P = record { says = λ bs n. says bs n (t bs) refl; does = does }
    where
      says : (bs : List ℕ) (n : ℕ) (s : Bool) → t bs ≡ s → (ask k s >>= λ _. p bs) ≡ refused n → Asking k t No bs n
      says bs n true q e = answer_yes q ((P bs q).says bs n e)
      says bs n false q e = let z : k ≡ n = cc in subst (Asking k t No bs) z (answer_no q)

      does : (bs : List ℕ) (n : ℕ) → Asking k t No bs n → (ask k (t bs) >>= λ _. p bs) ≡ refused n
      does bs n (answer_no q) = rw q
      does bs n (answer_yes q h) = rw q ((P bs q).does bs n h)

  -- another way to say it
  pub same_saying : (M : Saying) → ((bs : List ℕ) (n : ℕ) → No bs n → M bs n) → ((bs : List ℕ) (n : ℕ) → M bs n → No bs n) → Stops No p → Stops M p
  same_saying M f g P = record { says = λ bs n e. f bs n (P.says bs n e); does = λ bs n h. P.does bs n (g bs n h) }

-- one thing after another
module _ {A C X : Type 0} {pack : A → List ℕ → X} {W : A → List ℕ → Type 0} {Now : Saying} {Later : A → Saying} {p : List ℕ → Parsed X} (k : X → Parsed C) where
  pub after_stops : Recognizes (λ a r. parsed (pack a r)) W p → Stops Now p → ((a : A) → Stops (Later a) (λ r. k (pack a r))) → Stops (After Now W Later) (λ bs. p bs >>= k)
  unfolding ◌>>=◌
  after_stops R P F = record { says = λ bs n e. says bs n (stopped (p bs) k n e); does = does }
    where
      says : (bs : List ℕ) (n : ℕ) → (p bs ≡ refused n) ⊎ ((x : X) × (p bs ≡ parsed x) × (k x ≡ refused n)) → After Now W Later bs n
      says bs n (inl q) = now (P.says bs n q)
      says bs n (inr q) =
          let x = R.wrote bs q.0 q.1 in
          let z : pack x.0 x.2 ≡ q.0 = cc x.4 in
          subst (λ (y : List ℕ). After Now W Later y n) (sym x.3) (later x.5 ((F x.0).says x.2 n (rw z q.2)))

      does : (bs : List ℕ) (n : ℕ) → After Now W Later bs n → (p bs >>= k) ≡ refused n
      does bs n (now h) = rw (P.does bs n h)
      does bs n (later {a = a} {u = u} {v = v} w h) = rw (R.reads a u v w) ((F a).does v n h)
