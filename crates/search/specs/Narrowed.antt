-- Constraints that a search leaves out of its mask.
use Rattle.std.specs.Prelude.{◌≡◌, Bool, true, false, List, ℕ, ◌<◌, ◌≤◌, length, get_or}
use Rattle.calculus.specs.Limits.{most_terms}
use Rattle.calculus.specs.Lists.{bit}
use Rattle.calculus.specs.Branch.{Branch}
use Rattle.calculus.specs.Reading.{read}
use Rattle.problem.specs.Table.{constraints_of, no_constraint}
use Rattle.fits.specs.Words.{Shown}
use Rattle.quiet.specs.Quiet.{Idle}

-- A mask is narrowed to a word: each constraint that is left out is idle in every branch with these parents and rows.
pub record Narrows (split : Bool) (bs parents rows : List ℕ) (mask word : ℕ) : Type 0 where
  pub within : (i : ℕ) → bit word i ≡ true → bit mask i ≡ true
  pub idle : (n : ℕ) (b : Branch) → n ≤ most_terms → Shown b parents rows → (i : ℕ) → i < length (constraints_of (read bs)) → bit mask i ≡ true → bit word i ≡ false → Idle split n b (get_or (constraints_of (read bs)) i no_constraint)
