-- What is said is the signed number's text.
use Rattle.std.proofs.Common.{rules, arith, ◌≡◌, ◌∙◌, w16}
use Rattle.std.specs.Fmt.{signed_decimal}
use Rattle.std.specs.Int.{cast_signed}
use Rattle.text.proofs.Texts.{number_same}
use Rattle.text.proofs.Text.number.Goals as goal

pub returns-clause-says : goal.returns-clause-says
returns-clause-says c =
    let text : c.as_bytes.result.now ≡ signed_decimal (cast_signed w16 c.args.x) = search rules in
    rw (← text ∙ number_same c.args.x (omega arith)) c.say.ensures.says
