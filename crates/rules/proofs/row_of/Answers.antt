-- Of the rules with rows the last is 18.
use Rattle.std.proofs.Common.{arith, ◌≡◌}
use Rattle.rules.proofs.row_of.Goals as goal

pub returns-in_default : goal.returns-in_default
returns-in_default c = let e : c.args.rule ≡ 18 = omega arith in rw e
