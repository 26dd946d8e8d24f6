-- A rule that does not split has one child, of the one literal that its row gives.
use Rattle.std.proofs.Common.{arith, ◌≡◌, ◌<◌}
use Rattle.rules.proofs.Laying.{gives_one}
use Rattle.rules.proofs.child_of.Goals as goal

pub returns-in_default : goal.returns-in_default
returns-in_default c =
    let e = gives_one _ c.requires.low (omega (arith, c.requires.high)) c.in_default.is-0.0.1 c.in_default.is-0.1 in
    let n = c.requires.there in
    let l : c.args.n < 1 = rw e at n in
    let o : c.args.n ≡ 0 = omega arith in
    rw (o, c.alone-in_default.ensures, c.row_of.ensures, e)
