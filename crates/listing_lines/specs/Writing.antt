-- What the functions that write text are held to.
use Rattle.std.specs.Prelude.{◌≡◌, Bool, cond, List, [], ◌++◌, ℕ, ◌+◌, ◌/◌, ◌%◌, ◌<◌, ◌≤◌, get_or, eqb, pos}
use Rattle.calculus.specs.Terms.{term, set_var}
use Rattle.calculus.specs.Problem.{Problem, constant_count, term_count}
use Rattle.calculus.specs.Reading.{Parsed, parsed, refused, read}
use Rattle.calculus.specs.Forms.{root_in, root_inside, model_number, handed_model}
use Rattle.calculus.specs.Calls.{Verdict, FORMS, FALSE, SPENT, NOROOM, Answer, refusal, ended, answer_word}
use Rattle.calculus.specs.Demands.{Shape}
use Rattle.text.specs.Text.{number, led}
use Rattle.capi.specs.declared.verdict.Verdict as code
use Rattle.capi.specs.declared.verdict.Verdict.TheVariants.{Forms, False, Spent, NoRoom}
use Rattle.listing_lines.specs.declared.answer.Answer as coded
use Rattle.listing_lines.specs.declared.answer.Answer.TheVariants.{Refused, Ended}
use Rattle.listing_lines.specs.Listing.{items, program_call, listing}

-- the problem that was read (of what is refused, one without anything)
unfoldable pub problem_of : Parsed Problem → Problem
problem_of (parsed prob) = prob
problem_of (refused n) = record { constants = []; variables = []; sets = []; witnesses = 0; constraints = [] }

abbrev pub problem_in : List ℕ → Problem
problem_in bytes = problem_of (read bytes)

-- a record of the shape that listed records have, with the values that Valued (Demands.antt) says of its model
pub record Shaped (prob : Problem) (r : List ℕ) : Type 0 where
  pub shape : Shape prob r
  pub constant : (t i : ℕ) → t < term_count prob → i < constant_count prob → root_in r i ≡ root_in r t → model_number prob r (term t) ≡ get_or prob.constants i (pos 0)
  pub free : (t : ℕ) → t < term_count prob → ((i : ℕ) → i < constant_count prob → ¬ (root_in r i ≡ root_in r t)) → model_number prob r (term t) ≡ pos (32001 + root_in r t)
  pub most : (t : ℕ) → t < term_count prob → 32001 + root_in r t ≤ 32064

-- term number t is a root, and its class is known to be in set number A
abbrev pub inside_at : List ℕ → ℕ → ℕ → Bool
inside_at r A t = root_inside r (set_var A) (term t)

-- what term t adds to the members of set number A, a comma before it unless it is the first
unfoldable pub member_text : Problem → List ℕ → (A t start end : ℕ) → List ℕ
member_text prob r A t start end = cond (inside_at r A t) (led 44 start end ++ number (model_number prob r (term t))) []

-- item k of a form's line, letter, equals sign and value: the variables, then the sets
abbrev pub item_at : Problem → List ℕ → ℕ → List ℕ
item_at prob r k = get_or (items prob (handed_model prob r)) k []

-- ---- the first line

-- the verdict of a run, by its number
abbrev pub verdict_at : ℕ → Verdict
verdict_at n = cond (eqb n 1) FORMS (cond (eqb n 2) FALSE (cond (eqb n 3) SPENT NOROOM))

-- the answer of a run, from its answer word
unfoldable pub answer_in : ℕ → Answer
answer_in word = cond (eqb (word % 256) 0) (refusal (word / 256 % 256)) (ended (verdict_at (word % 256)) (word / 65536 % 65536) (word / 4294967296))

-- what the code's verdict and answer say
abbrev pub run_verdict : code.Verdict → Verdict
run_verdict Forms = FORMS
run_verdict False = FALSE
run_verdict Spent = SPENT
run_verdict NoRoom = NOROOM

abbrev pub run_answer : coded.Answer → Answer
run_answer (Refused n) = refusal n
run_answer (Ended v steps forms) = ended (run_verdict v) steps forms

-- its numbers have at most five digits, and its forms ten
abbrev pub Small : coded.Answer → Type 0
Small (Refused n) = n < 256
Small (Ended v steps forms) = (steps < 65536) × (forms < 4294967296)

-- it is what the word says
abbrev pub ReadOff : ℕ → coded.Answer → Type 0
ReadOff word a = (run_answer a ≡ answer_in word) × Small a

-- ---- the run that a listing shows

-- the answer word and the form buffer as the program's call leaves them
pub record ProgramRan (bytes : List ℕ) (word : ℕ) (forms : List ℕ) : Type 0 where
  pub word_is : word ≡ answer_word (program_call bytes).answer
  pub forms_are : forms ≡ (program_call bytes).forms

-- line i of the listing; after the last line there is nothing
unfoldable pub line_at : List ℕ → ℕ → List ℕ
line_at bytes i = get_or (listing bytes) i []
