-- What is said is the kit's text of the number, and that is the definition's.
use Rattle.std.proofs.Common.{◌∙◌}
use Rattle.text.proofs.Texts.{decimal_same}
use Rattle.text.proofs.Text.decimal.Goals as goal

pub say-requires : goal.say-requires
say-requires c = rw (c.as_bytes.ensures.value ∙ c.format.ensures.text ∙ decimal_same c.args.n c.ranges.n.fits) c.requires
