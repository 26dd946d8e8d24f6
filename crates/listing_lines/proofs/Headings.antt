-- The first line, from the answer word.
use mathlib.Core.Path.{◌≡◌, refl, sym, ap, ◌∙◌}
use mathlib.Core.List.{List}
use Prim.Native.Nat.{ℕ, ◌^◌, ◌/◌, ◌%◌, ◌≤◌, ◌<◌}
use native.Mathlib.Omega.{arith}
use lib.ListN.{length}
use borrow.Author.Tests.{eq-eqb, ne_eqb}
use Rattle.calculus.specs.Calls.{Verdict, FORMS, FALSE, SPENT, NOROOM, Answer, refusal, ended, answer_word, verdict_number}
use Rattle.calculus.proofs.AnswerLaws.{answers}
use Rattle.capi.proofs.Contracted.{some_number}
use Rattle.text.specs.Text.{decimal}
use Rattle.listing_lines.specs.Listing.{verdict_name, program_call}
use Rattle.listing_lines.specs.Writing.{verdict_at, answer_in, run_verdict, ReadOff}
use Rattle.capi.specs.declared.verdict.Verdict as code
use Rattle.listing_lines.specs.declared.answer.Answer.TheVariants.{Ended}
use Rattle.text.proofs.Texts.{decimal_length}

pub refused_in : (word : ℕ) → word % 256 ≡ 0 → refusal (word / 256 % 256) ≡ answer_in word
unfolding answer_in
refused_in word e = rw (eq-eqb (word % 256) 0 e) refl

pub ended_in : (word : ℕ) (v : code.Verdict) → word < 2 ^ 64 → ¬ (word % 256 ≡ 0) → run_verdict v ≡ verdict_at (word % 256) → ReadOff word (Ended v (word / 65536 % 65536) (word / 4294967296))
unfolding answer_in
ended_in word v l n e = (rw (ne_eqb (word % 256) 0 n, e) refl, (omega arith, omega arith))

pub other_verdict : (n : ℕ) → ¬ (n ≡ 1) → ¬ (n ≡ 2) → ¬ (n ≡ 3) → NOROOM ≡ verdict_at n
other_verdict n a b c = rw (ne_eqb n 1 a, ne_eqb n 2 b, ne_eqb n 3 c) refl

-- ---- the pieces are short

pub forms_short : (n : ℕ) → n < 4294967296 → length (decimal n) ≤ 10
forms_short n l = decimal_length 10 n (omega arith) (omega arith) (omega arith)

pub name_short : (v : Verdict) → length (verdict_name v) ≤ 7
name_short FORMS = omega arith
name_short FALSE = omega arith
name_short SPENT = omega arith
name_short NOROOM = omega arith

-- the answer of a call can be read back from its word
verdict_back : (v : Verdict) → verdict_at (verdict_number v) ≡ v
verdict_back FORMS = refl
verdict_back FALSE = refl
verdict_back SPENT = refl
verdict_back NOROOM = refl

pub unpacks : (bytes : List ℕ) → answer_in (answer_word (program_call bytes).answer) ≡ (program_call bytes).answer
unfolding answer_in program_call
unpacks bytes = go (program_call bytes).answer refl
  where
    go : (a : Answer) → (program_call bytes).answer ≡ a → answer_in (answer_word (program_call bytes).answer) ≡ (program_call bytes).answer
    go (refusal n) e =
        let u = ((answers bytes).0 1000 _ _).0 n e in
        rw (eq-eqb _ 0 u.verdict_is) (ap refusal u.number_is ∙ sym e)
    go (ended v n c) e =
        let u = ((answers bytes).0 1000 _ _).1 v n c e in
        rw (ne_eqb _ 0 (λ q. some_number v (sym u.verdict_is ∙ q)), u.verdict_is, verdict_back v, u.steps_are, u.forms_are) (sym e)
