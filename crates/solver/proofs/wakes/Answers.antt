-- An act that closes the branch wakes nothing.
use Rattle.std.proofs.Common.{sym, subst}
use Rattle.calculus.proofs.Masks.{bit_zero}
use Rattle.step.specs.declared.Act.{Act}
use Rattle.solver.specs.ComesTo.{Wakes}
use Rattle.solver.proofs.wakes.Goals as goal

pub returns-in-Close : goal.returns-in-Close
returns-in-Close c = subst (λ (x : Act). Wakes c.args.run.now.marks x 0) (sym c.in-Close.is) bit_zero
