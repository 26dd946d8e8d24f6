-- The two sorts. A term number and a set number are never used for one another, so each is a type of its own.
use Rattle.std.specs.Prelude.{List, map, ℕ}
use Rattle.calculus.specs.Lists.{up_from}

-- a term: a constant, a variable or a witness, by its number
pub record Term : Type 0 where
  pub index : ℕ

-- a set variable, by its number
pub record SetVar : Type 0 where
  pub index : ℕ

abbrev pub term : ℕ → Term
term n = record { index = n }

abbrev pub set_var : ℕ → SetVar
set_var n = record { index = n }

-- n terms from number s upward
abbrev pub terms_from : ℕ → ℕ → List Term
terms_from s n = map term (up_from s n)
