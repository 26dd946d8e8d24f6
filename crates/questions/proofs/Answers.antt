-- What an answer says of what was parsed; and the answer to what is parsed.
use mathlib.Core.Path.{◌≡◌, refl, sym, ap}
use Rattle.std.specs.Prelude.{Ok, Err}
use Rattle.calculus.specs.Reading.{Parsed, parsed, refused, ◌>>=◌}
use Rattle.questions.specs.declared.refusal.Refusal.{Refusal}
use Rattle.questions.specs.Answers.{number_of, Answers}

module _ {A B : Type 0} (As : A → B → Type 0) where
  -- ---- from the answer to what was parsed

  pub was_parsed : (p : Parsed A) (b : B) → Answers As p (Ok b) → (a : A) × (p ≡ parsed a) × As a b
  was_parsed (parsed a) b h = (a, refl, h)
  was_parsed (refused n) b h = absurd h

  pub was_refused : (p : Parsed A) (q : Refusal) → Answers As p (Err q) → p ≡ refused (number_of q)
  was_refused (parsed a) q h = absurd h
  was_refused (refused n) q h = ap refused (sym h)

  -- ---- from what is parsed to the answer

  pub answer_parsed : (p : Parsed A) (a : A) (b : B) → p ≡ parsed a → As a b → Answers As p (Ok b)
  answer_parsed p a b e h = rw e h

  pub answer_refused : (p : Parsed A) (q : Refusal) → p ≡ refused (number_of q) → Answers As p (Err q)
  answer_refused p q e = rw e refl

  -- ---- one parser after another

  module _ {C D : Type 0} (Cs : C → D → Type 0) (p : Parsed A) (f : A → Parsed C) where
    -- a refusal is passed on, as `?` does
    pub passed_on : (q : Refusal) → Answers As p (Err q) → Answers Cs (p >>= f) (Err q)
    unfolding ◌>>=◌
    passed_on q h = rw (was_refused p q h) refl
