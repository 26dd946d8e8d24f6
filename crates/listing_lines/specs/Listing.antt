-- The text of a listing (document 01, "The listing program reads a sheet").
use Rattle.std.specs.Prelude.{◌≡◌, List, [], ◌∷◌, ◌++◌, map, ℕ, take, replicate}
use Rattle.calculus.specs.Lists.{gather, Each}
use Rattle.calculus.specs.Problem.{Problem, term_count, Rising, Satisfies}
use Rattle.calculus.specs.Reading.{Parsed, parsed, refused, read}
use Rattle.calculus.specs.Encoding.{Handed}
use Rattle.calculus.specs.Forms.{listed_forms, handed_model}
use Rattle.calculus.specs.Check.{assignment_of}
use Rattle.calculus.specs.Calls.{Verdict, FORMS, FALSE, SPENT, NOROOM, Answer, refusal, ended, Outcome, call}
use Rattle.text.specs.Text.{decimal, number, separated, braces, assigned}

-- ---- the first line

-- "FORMS ", "FALSE ", "SPENT ", "NOROOM "
abbrev pub verdict_name : Verdict → List ℕ
verdict_name FORMS = 70 ∷ 79 ∷ 82 ∷ 77 ∷ 83 ∷ 32 ∷ []
verdict_name FALSE = 70 ∷ 65 ∷ 76 ∷ 83 ∷ 69 ∷ 32 ∷ []
verdict_name SPENT = 83 ∷ 80 ∷ 69 ∷ 78 ∷ 84 ∷ 32 ∷ []
verdict_name NOROOM = 78 ∷ 79 ∷ 82 ∷ 79 ∷ 79 ∷ 77 ∷ 32 ∷ []

-- "REFUSED ", " STEPS "
abbrev pub refused_name : List ℕ
refused_name = 82 ∷ 69 ∷ 70 ∷ 85 ∷ 83 ∷ 69 ∷ 68 ∷ 32 ∷ []

abbrev pub steps_name : List ℕ
steps_name = 32 ∷ 83 ∷ 84 ∷ 69 ∷ 80 ∷ 83 ∷ 32 ∷ []

-- the verdict, its forms and the steps, or the number of the question that refused; a newline ends every line
abbrev pub heading : Answer → List ℕ
heading (refusal n) = refused_name ++ (decimal n ++ (10 ∷ []))
heading (ended v steps forms) = verdict_name v ++ (decimal forms ++ (steps_name ++ (decimal steps ++ (10 ∷ []))))

-- ---- the line of a form

-- variables, then sets, each as its letter, an equals sign and the value that the form's model gives it
abbrev pub items : Problem → Handed → List (List ℕ)
items prob g = assigned number prob.variables g.numbers ++ assigned braces prob.sets g.sets

-- one space between, and a newline; a problem without names gives an empty line
unfoldable pub form_line : Problem → List ℕ → List ℕ
form_line prob r = separated 32 (items prob (handed_model prob r)) ++ (10 ∷ [])

-- ---- the listing

-- the call that the program makes: a budget of 1,000, a form buffer of 32,768 bytes, and a trace buffer for the budget
unfoldable pub program_call : List ℕ → Outcome
program_call bytes = call bytes 1000 (replicate 32768 0) (replicate 4000 0)

-- a refusal lists none
abbrev pub forms_of : Answer → ℕ
forms_of (refusal n) = 0
forms_of (ended v steps forms) = forms

-- the records that it lists
abbrev pub form_records : Problem → Outcome → List (List ℕ)
form_records prob o = listed_forms (term_count prob) (forms_of o.answer) o.forms

-- the lines of a problem's listing: the first line, then one line a form
abbrev pub lines_of : Parsed Problem → Outcome → List (List ℕ)
lines_of (refused n) o = heading o.answer ∷ []
lines_of (parsed prob) o = heading o.answer ∷ map (form_line prob) (form_records prob o)

unfoldable pub listing : List ℕ → List (List ℕ)
listing bytes = lines_of (read bytes) (program_call bytes)

-- The text that the program is to write: the lines of the input's listing, one after the other. The program's `list` promises just that of its writer. No contract can say what standard output then holds.
abbrev pub written : List ℕ → List ℕ
written bytes = gather (λ (l : List ℕ). l) (listing bytes)

-- Reading at most 4,097 bytes changes nothing.
abbrev pub Cut : Type 0
Cut = (bytes : List ℕ) → listing (take 4097 bytes) ≡ listing bytes

-- In the model of every listed form, which its line shows, each set's members ascend by value and stand once each, and the model satisfies the problem.
abbrev pub Shows : Type 0
Shows = (bytes : List ℕ) (prob : Problem) → read bytes ≡ parsed prob → Each (λ r. Each Rising (handed_model prob r).sets × Satisfies prob (assignment_of (handed_model prob r))) (form_records prob (program_call bytes))
