-- The word of a call, and what a function promises of one.
use Rattle.std.specs.Prelude.{ℕ, Result, Ok, Err}
use Rattle.calculus.specs.Calls.{refusal, answer_word}
use Rattle.questions.specs.declared.refusal.Refusal.{Refusal}
use Rattle.questions.specs.Answers.{number_of}
use Rattle.capi.specs.declared.verdict.Verdict.{Verdict}
use Rattle.capi.specs.declared.verdict.Verdict.TheVariants.{Forms, False, Spent, NoRoom}
use Rattle.capi.specs.declared.verdict.Judgement.{Judgement}
use Rattle.capi.specs.declared.verdict.Judgement.TheVariants.{Holds, Fails}

-- the number of each verdict of a run
abbrev pub run_number : Verdict → ℕ
run_number Forms = 1
run_number False = 2
run_number Spent = 3
run_number NoRoom = 4

-- and of a check
abbrev pub judgement_number : Judgement → ℕ
judgement_number Holds = 5
judgement_number Fails = 6

-- the word of a call, from the word where it is not refused, or from the question that refuses it
abbrev pub word_of : Result ℕ Refusal → ℕ
word_of (Ok word) = word
word_of (Err q) = answer_word (refusal (number_of q))
