-- Rising constants rise by at least 1 each, so value and place rise alike exactly if none is missing.
use Rattle.std.proofs.Common.{rules, w16}
use Rattle.std.proofs.lemmas.Int.{to_z-of_z}
use Rattle.questions.proofs.Constants.{between}
use Rattle.questions.proofs.gapless_ok.Goals as goal

pub returns : goal.returns
returns c =
    let a = c.args in
    let hi = to_z-of_z w16 c.signed-hi.result (search rules) in
    let lo = to_z-of_z w16 c.signed-lo.result (search rules) in
    rw (c.abs_diff.ensures, hi, lo, c.signed-hi.ensures, c.signed-lo.ensures) (between a.constants.now c.requires.0 a.i a.j c.if-j-i.false c.requires.2)
