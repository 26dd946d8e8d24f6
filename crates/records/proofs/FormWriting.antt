-- A form that is listed, or has no room; a step that is noted, or has no budget.
use mathlib.Core.Path.{◌≡◌, refl, ◌∙◌, sym}
use mathlib.Core.List.{List, ◌++◌}
use Prim.Native.Nat.{ℕ, zero, suc, ◌+◌, ◌*◌, ◌<◌, ◌≤◌}
use native.Mathlib.Omega.{arith}
use native.Mathlib.Nat.{mul-le-mul}
use lib.ListN.{length, take}
use lib.Seq.{take_at}
use borrow.Author.Tests.{le-leb, lt-leb, eq-eqb, ne_eqb}
use Rattle.calculus.specs.Limits.{term_bytes}
use Rattle.calculus.specs.Branch.{Branch}
use Rattle.calculus.specs.Forms.{record_length, record_of}
use Rattle.calculus.proofs.RecordFields.{record_is_long}
use Rattle.slices.specs.Bytes.{put_at}
use Rattle.calculus.specs.Run.{DONE, SPENT, NOROOM}
use Rattle.records.specs.State.{State, counts_of, state, with_form, wrote_step, with_step}

-- the first bytes of a record with more after it are the record
pub record_front : (b : Branch) (n size : ℕ) (r more : List ℕ) → size ≡ record_length n → r ≡ record_of n b ++ more → take size r ≡ record_of n b
record_front b n size r more l e = rw e (take_at (record_of n b) more size (record_is_long b n ∙ sym l))

module _ (n : ℕ) (r : List ℕ) (s : State) where
  -- there is room
  pub listed_there : record_length n * s.counts.forms + record_length n ≤ length s.forms
      → with_form n r s ≡ state (counts_of s.counts.steps (suc s.counts.forms)) DONE (put_at s.forms (record_length n * s.counts.forms) r) s.trace
  unfolding with_form
  listed_there l = rw (le-leb (record_length n * s.counts.forms + record_length n) (length s.forms) l)

  -- there is none
  pub listed_not : length s.forms < record_length n * s.counts.forms + record_length n → with_form n r s ≡ state s.counts NOROOM s.forms s.trace
  unfolding with_form
  listed_not l = rw (lt-leb (record_length n * s.counts.forms + record_length n) (length s.forms) l)

module _ (budget : ℕ) (r : List ℕ) (s : State) where
  -- a step is left
  pub noted_there : (s.counts.steps ≡ budget → ⊥) → with_step budget r s ≡ wrote_step r s
  unfolding with_step
  noted_there d = rw (ne_eqb s.counts.steps budget d)

  -- none is left
  pub noted_not : s.counts.steps ≡ budget → with_step budget r s ≡ state s.counts SPENT s.forms s.trace
  unfolding with_step
  noted_not e = rw (eq-eqb s.counts.steps budget e)

-- records of one term or more are no fewer bytes than forms
pub few_forms : (n f m : ℕ) → (n ≡ 0 → f ≡ 0) → record_length n * f ≤ m → term_bytes * f ≤ m
unfolding record_length
few_forms zero f m z l = omega (arith, z refl)
few_forms (suc n) f m z l = let a : term_bytes ≤ record_length (suc n) = omega arith in let b : f ≤ f = omega arith in omega (arith, mul-le-mul a b)
