-- What a function that reads answers: what the calculus parses, or the question that refuses. Assumes nothing: these are definitions.
use Rattle.std.specs.Prelude.{◌≡◌, ℕ, Result, Ok, Err}
use Rattle.calculus.specs.Reading.{Parsed, parsed, refused}
use Rattle.questions.specs.declared.refusal.Refusal.{Refusal}
use Rattle.questions.specs.declared.refusal.Refusal.TheVariants.{TooLong, CutShort, Constants, Variables, Sets, TooManyConstraints, Kind, Operand, Interval, LeftOver, TooManyTerms, Budget, Trace, Assignment}

-- the number of each question
abbrev pub number_of : Refusal → ℕ
number_of TooLong = 1
number_of CutShort = 2
number_of Constants = 3
number_of Variables = 4
number_of Sets = 5
number_of TooManyConstraints = 6
number_of Kind = 7
number_of Operand = 8
number_of Interval = 9
number_of LeftOver = 10
number_of TooManyTerms = 11
number_of Budget = 12
number_of Trace = 13
number_of Assignment = 14

-- the answer to what was parsed is as told, and a refusal has the question's number
module _ {A B : Type 0} where
  abbrev pub Answers : (A → B → Type 0) → Parsed A → Result B Refusal → Type 0
  Answers As (parsed a) (Ok b) = As a b
  Answers As (parsed a) (Err q) = ⊥
  Answers As (refused n) (Ok b) = ⊥
  Answers As (refused n) (Err q) = number_of q ≡ n
