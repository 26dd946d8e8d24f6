-- What a program that writes a listing has to show.
use mathlib.Core.Path.{◌≡◌, refl, sym, ap}
use mathlib.Core.List.{List}
use Prim.Native.Nat.{ℕ, ◌≤◌}
use native.Mathlib.Omega.{arith}
use lib.ListN.{length, take, drop, replicate, length-append}
use lib.Seq.{take_at}
use Rattle.calculus.specs.Calls.{over}
use Rattle.capi.specs.Contract.{Determined}
use Rattle.listing_lines.specs.Listing.{program_call}
use Rattle.listing_lines.specs.Writing.{ProgramRan}

-- its call leaves the word and the form buffer that the lines are made from
pub ran : (bytes : List ℕ) (word : ℕ) (forms trace : List ℕ) → Determined bytes 1000 (replicate 32768 0) (replicate 4000 0) word forms trace → ProgramRan bytes word forms
unfolding program_call
ran bytes word forms trace c = record { word_is = c.0; forms_are = c.1 }

-- a line is within its buffer
pub within : (s d d₁ : List ℕ) (e : ℕ) → d₁ ≡ over s d → e ≡ length s → (e ≤ length d₁) × (e ≡ length (take e d₁))
within s d d₁ e p q = rw (p, q) (omega (arith, length-append s (drop (length s) d)), sym (ap length (take_at s (drop (length s) d) (length s) refl)))
