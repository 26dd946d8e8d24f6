-- The contracts of the two calls, over their bytes, their answer word, and the buffers as they leave them. Each call ensures its contract, and that what it answers and writes is the definition's.
use Rattle.std.specs.Prelude.{◌≡◌, ◌↔◌, ◌⊎◌, List, [], ◌∷◌, ℕ, suc, ◌*◌, ◌/◌, ◌%◌, ◌≤◌, ◌<◌, length, get_or, take, drop, ℤ, pos}
use Rattle.calculus.specs.Lists.{Each, Some}
use Rattle.calculus.specs.Terms.{Term, term, set_var}
use Rattle.calculus.specs.Meaning.{member, Holds}
use Rattle.calculus.specs.Branch.{start}
use Rattle.calculus.specs.Problem.{Problem, term_count, set_count, Assignment, values, Satisfies}
use Rattle.calculus.specs.Encoding.{Bytes, Written, Handed, WrittenAssignment}
use Rattle.calculus.specs.Questions.{FirstNoOfRun, FirstNoOfCheck}
use Rattle.calculus.specs.Forms.{record_length, listed_forms, Agrees, SatisfiesForm, model_number, model}
use Rattle.calculus.specs.Check.{assignment_of}
use Rattle.calculus.specs.Calls.{Verdict, Answer, call, answer_number, answer_word, verdict_number, Checked, check, check_word, checked_number}
use Rattle.calculus.specs.Order.{Progress, unbegun, Works}
use Rattle.calculus.specs.Demands.{Shape, Valued}

-- The parts of an answer word (Calls.antt has its layout). The verdict: 0 REFUSED, 1 FORMS, 2 FALSE, 3 SPENT, 4 NO ROOM, 5 HOLDS, 6 FAILS
abbrev pub verdict_in : ℕ → ℕ
verdict_in word = word % 256

-- the refusal number, or the number of the constraint that fails
abbrev pub number_in : ℕ → ℕ
number_in word = word / 256 % 256

abbrev pub steps_in : ℕ → ℕ
steps_in word = word / 65536 % 65536

abbrev pub forms_in : ℕ → ℕ
forms_in word = word / 4294967296

-- the forms that a call lists: the records at the form buffer's start, as many as the word counts
abbrev pub listed_in : Problem → ℕ → List ℕ → List (List ℕ)
listed_in prob word forms = listed_forms (term_count prob) (forms_in word) forms

-- how many bytes they take
abbrev pub listed_bytes : Problem → ℕ → ℕ
listed_bytes prob word = forms_in word * record_length (term_count prob)

-- what the call has done, by its word and buffers
abbrev pub progress_in : Problem → ℕ → List ℕ → List ℕ → Progress
progress_in prob word forms trace = record { steps = steps_in word; forms = forms_in word; records = take (listed_bytes prob word) forms; trace = take (4 * steps_in word) trace }

-- the word says REFUSED, with number n
abbrev pub RefusedIn : ℕ → ℕ → Type 0
RefusedIn word n = (verdict_in word ≡ answer_number (Answer.refusal n)) × (number_in word ≡ n)

-- ---- the run: forms and trace are the lent buffers as they were, forms' and trace' as the call leaves them

-- What the call has done is a run in document 01's order of work (Order.antt), and there is no other.
pub record Ran (bytes : List ℕ) (budget : ℕ) (forms : List ℕ) (word : ℕ) (forms' trace' : List ℕ) : Type 0 where
  pub prob : Problem
  pub written : Written bytes prob
  pub verdict : Verdict
  pub verdict_is : verdict_in word ≡ verdict_number verdict
  -- the lengths of its paths, to each form, closed branch and stop
  pub paths : List ℕ
  pub works : Works prob budget (length forms) ((0, start (term_count prob)) ∷ []) unbegun verdict (progress_in prob word forms' trace') paths
  pub only : (v : Verdict) (e : Progress) (ps : List ℕ) → Works prob budget (length forms) ((0, start (term_count prob)) ∷ []) unbegun v e ps → (v ≡ verdict) × (e ≡ progress_in prob word forms' trace') × (ps ≡ paths)

pub record RunContract (bytes : List ℕ) (budget : ℕ) (forms trace : List ℕ) (word : ℕ) (forms' trace' : List ℕ) : Type 0 where
  -- What was lent as a problem is bytes.
  pub bytewise : Bytes bytes
  -- They are one problem at the most.
  pub one_problem : (p q : Problem) → Written bytes p → Written bytes q → p ≡ q
  -- It is refused with number n exactly where question n is the first that is answered "no": 1 to 11 of the problem, then 12 and 13.
  pub refusals : (n : ℕ) → RefusedIn word n ↔ FirstNoOfRun bytes budget (length trace) n
  -- A refusal counts nothing and writes nothing; any other answer has no number.
  pub untouched : (n : ℕ) → RefusedIn word n → (steps_in word ≡ 0) × (forms_in word ≡ 0) × (forms' ≡ forms) × (trace' ≡ trace)
  pub unnumbered : ((n : ℕ) → ¬ RefusedIn word n) → number_in word ≡ 0
  -- What is written stays inside what was lent.
  pub inside : (steps_in word ≤ budget) × (4 * steps_in word ≤ length trace) × ((prob : Problem) → Written bytes prob → listed_bytes prob word ≤ length forms)
  -- Later bytes of both buffers stay as they were.
  pub later_bytes : (length forms' ≡ length forms) × (length trace' ≡ length trace) × (drop (4 * steps_in word) trace' ≡ drop (4 * steps_in word) trace)
      × ((prob : Problem) → Written bytes prob → drop (listed_bytes prob word) forms' ≡ drop (listed_bytes prob word) forms)
  -- The model of every listed record satisfies every constraint and the record; Shape and Valued say what the record and its model look like.
  pub models : (prob : Problem) → Written bytes prob
      → Each (λ r. Satisfies prob (model prob r) × Agrees (term_count prob) (values prob (model prob r) (model_number prob r)) r × Shape prob r × Valued prob r) (listed_in prob word forms')
  -- FALSE is said only of a problem that no assignment satisfies.
  pub no_false_alarm : verdict_in word ≡ verdict_number Verdict.FALSE → (prob : Problem) × Written bytes prob × ((g : Assignment) → ¬ Satisfies prob g)
  -- After FORMS and FALSE the problem, as its bytes are written, and the listed records share exactly the same solutions.
  pub same_solutions : (verdict_in word ≡ verdict_number Verdict.FORMS) ⊎ (verdict_in word ≡ verdict_number Verdict.FALSE)
      → (prob : Problem) × Written bytes prob × ((g : Assignment) → Satisfies prob g ↔ Some (SatisfiesForm prob g) (listed_in prob word forms'))
  -- Its first half: every solution, with some whole numbers for the witnesses, agrees with the merges and facts of some listed record.
  pub covers : (verdict_in word ≡ verdict_number Verdict.FORMS) ⊎ (verdict_in word ≡ verdict_number Verdict.FALSE)
      → (prob : Problem) → Written bytes prob → (g : Assignment) → Satisfies prob g
      → Some (λ r. (witness : Term → ℤ) × Agrees (term_count prob) (values prob g witness) r) (listed_in prob word forms')
  -- Its second half, however the run ended: what satisfies a listed record is a solution.
  pub only_solutions : (prob : Problem) → Written bytes prob → (g : Assignment) → Some (SatisfiesForm prob g) (listed_in prob word forms') → Satisfies prob g
  -- Unless it is refused, the verdict, counts, records and trace are those of document 01's order of work, which leaves no choice.
  pub order_of_work : ((n : ℕ) → ¬ RefusedIn word n) → Ran bytes budget forms word forms' trace'
  -- No path of that run, to a form, a closed branch or the branch where it stopped, is longer than terms × (sets + 1).
  pub short_paths : (r : Ran bytes budget forms word forms' trace') → Each (λ d. d ≤ term_count r.prob * suc (set_count r.prob)) r.paths

-- The word and both buffers, every byte, are the definition's.
abbrev pub Determined : (bytes : List ℕ) (budget : ℕ) (forms trace : List ℕ) (word : ℕ) (forms' trace' : List ℕ) → Type 0
Determined bytes budget forms trace word forms' trace' = (word ≡ answer_word (call bytes budget forms trace).answer) × (forms' ≡ (call bytes budget forms trace).forms) × (trace' ≡ (call bytes budget forms trace).trace)

-- ---- the assignment check

-- constraint i is true of what was handed in
abbrev pub TrueAt : Problem → Handed → ℕ → Type 0
TrueAt prob g i = Holds (values prob (assignment_of g) (λ _. pos 0)) (get_or prob.constraints i (member (term 0) (set_var 0)))

-- what was handed in is an assignment g of the problem prob
pub record Given (bytes assignment : List ℕ) (prob : Problem) (g : Handed) : Type 0 where
  pub written : Written bytes prob
  pub handed : WrittenAssignment prob assignment g

pub record CheckContract (bytes assignment : List ℕ) (word : ℕ) : Type 0 where
  -- What was lent as a problem, and as an assignment, is bytes.
  pub bytewise : Bytes bytes × Bytes assignment
  -- It is refused with number n exactly where question n is the first that is answered "no": 1 to 11 of the problem, then 14 of the assignment.
  pub refusals : (n : ℕ) → ((verdict_in word ≡ checked_number (Checked.declined n)) × (number_in word ≡ n)) ↔ FirstNoOfCheck bytes assignment n
  -- HOLDS is said exactly where the assignment satisfies the problem.
  pub holds : (verdict_in word ≡ checked_number Checked.HOLDS) ↔ ((prob : Problem) × (g : Handed) × Given bytes assignment prob g × Satisfies prob (assignment_of g))
  -- FAILS names constraint i (its number is in the word; the verdict is the same for every i) exactly where that is false of the assignment and all lower ones are true of it.
  pub fails : (i : ℕ) → ((verdict_in word ≡ checked_number (Checked.FAILS i)) × (number_in word ≡ i))
      ↔ ((prob : Problem) × (g : Handed) × Given bytes assignment prob g × (i < length prob.constraints) × ¬ TrueAt prob g i × ((j : ℕ) → j < i → TrueAt prob g j))
  -- There is no other verdict; HOLDS has no number, and no check counts steps or forms.
  pub nothing_else : ((verdict_in word ≡ checked_number (Checked.declined (number_in word))) ⊎ ((verdict_in word ≡ checked_number Checked.HOLDS) ⊎ (verdict_in word ≡ checked_number (Checked.FAILS (number_in word)))))
      × (verdict_in word ≡ checked_number Checked.HOLDS → number_in word ≡ 0) × (steps_in word ≡ 0) × (forms_in word ≡ 0)

-- Each contract alone leaves no choice: what meets it is what the definition gives.
abbrev pub Enough : Type 0
Enough = ((bytes : List ℕ) (budget : ℕ) (forms trace : List ℕ) (word : ℕ) (forms' trace' : List ℕ) → RunContract bytes budget forms trace word forms' trace' → Determined bytes budget forms trace word forms' trace')
    × ((bytes assignment : List ℕ) (word : ℕ) → CheckContract bytes assignment word → word ≡ check_word (check bytes assignment))
