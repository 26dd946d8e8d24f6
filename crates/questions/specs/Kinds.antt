-- The kinds of constraints, by their numbers.
use Rattle.std.specs.Prelude.{◌≡◌, ◌⊎◌, ℕ, ◌<◌, Result, MatchResult}
use Rattle.questions.specs.declared.refusal.Refusal as refusal
use Rattle.questions.specs.declared.refusal.Refusal.TheVariants as refusals
use Rattle.questions.specs.declared.kind.Kind.{Kind}
use Rattle.questions.specs.declared.kind.Kind.TheVariants.{Member, Nonmember, Same, Different, Equal, Unequal, Union, Disjoint, Subset, Intersection, Exactly, Interval}

abbrev pub code_of : Kind → ℕ
code_of Member = 1
code_of Nonmember = 2
code_of Same = 3
code_of Different = 4
code_of Equal = 5
code_of Unequal = 6
code_of Union = 7
code_of Disjoint = 8
code_of Subset = 9
code_of Intersection = 10
code_of Exactly = 11
code_of Interval = 12

-- the kind with this number; or question 7 refuses, where no kind has it
abbrev pub Decodes : ℕ → Result Kind refusal.Refusal → Type 0
Decodes byte r = MatchResult r (λ kind. code_of kind ≡ byte) (λ q. (q ≡ refusals.Kind) × ((byte ≡ 0) ⊎ (12 < byte)))
