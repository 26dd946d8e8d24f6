-- The bits of a word, one by one.
use Rattle.std.specs.Prelude.{◌≡◌, true, false, ◌&&◌, not, ℕ, ◌<◌, eqb, Option, Some, None}
use Rattle.calculus.specs.Lists.{bit}
use Rattle.bits.specs.declared.ones.Ones.{Ones}

-- k is the lowest bit of word s, and t is the word without it
pub record Takes (s : ℕ) (k : ℕ) (t : ℕ) : Type 0 where
  pub below : k < 64
  pub set : bit s k ≡ true
  pub lowest : (j : ℕ) → j < k → bit s j ≡ false
  pub rest : (i : ℕ) → bit t i ≡ (bit s i && not (eqb i k))

-- the lowest bit comes first; none comes where none is left
abbrev pub Gives : Ones → Option ℕ → Ones → Type 0
Gives s None t = (s.0 ≡ 0) × (t ≡ s)
Gives s (Some k) t = Takes s.0 k t.0
