-- A question's number is that of its variant.
use Rattle.std.proofs.Common.{◌≡◌, ◌+◌, ◌*◌, refl}
use denote.Enum.Declared.{tag_of}
use Rattle.calculus.specs.Calls.{refusal, answer_word}
use Rattle.questions.specs.contracts.refusal.Refusal.{the_type}
use Rattle.questions.specs.declared.refusal.Refusal.TheVariants.{TooLong, CutShort, Constants, Variables, Sets, TooManyConstraints, Kind, Operand, Interval, LeftOver, TooManyTerms, Budget, Trace, Assignment}
use Rattle.questions.specs.Answers.{number_of}
use Rattle.capi.proofs.declined.Goals as goal

pub returns : goal.returns
unfolding answer_word
returns c =
    elim c.args.no as (λ q. 256 * (tag_of the_type q + 1) ≡ answer_word (refusal (number_of q))) [
      | TooLong ↦ refl
      | CutShort ↦ refl
      | Constants ↦ refl
      | Variables ↦ refl
      | Sets ↦ refl
      | TooManyConstraints ↦ refl
      | Kind ↦ refl
      | Operand ↦ refl
      | Interval ↦ refl
      | LeftOver ↦ refl
      | TooManyTerms ↦ refl
      | Budget ↦ refl
      | Trace ↦ refl
      | Assignment ↦ refl
    ]
