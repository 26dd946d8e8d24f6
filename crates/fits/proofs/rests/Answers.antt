-- Two terms of one class have its root's bit together, others none.
use Rattle.std.proofs.Common.{ℕ, ap, nat_eq}
use Rattle.fits.proofs.rests.Goals as goal

pub returns-in-Different : goal.returns-in-Different
returns-in-Different c = rw c.in-Different.is (ap (λ (w : ℕ). nat_eq w 0) c.together.ensures)
