-- The word and the form buffer are those of the program's call, and the first i lines of the listing are written.
use Rattle.std.proofs.Common.{◌≡◌, List, ℕ, length, take}
use Rattle.std.specs.Io.KnownBytes.{Appends}
use Rattle.calculus.specs.Lists.{gather}
use Rattle.listing_lines.specs.Listing.{listing}
use Rattle.listing_lines.specs.Writing.{ProgramRan}
use Rattle.listing.proofs.list.Given as goal

abbrev pub invariant-loop-i : goal.invariant-loop-i
invariant-loop-i g l = (length l.text ≡ 32768) × ProgramRan l.problem l.word l.forms × Appends (g.W.Write.contents l.initial.to) (g.W.Write.contents l.to) (gather (λ (b : List ℕ). b) (take l.i (listing l.problem)))
