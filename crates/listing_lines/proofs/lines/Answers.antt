-- The word of the program's call has the number of forms, and the listing has a line for each after the first.
use Rattle.std.proofs.Common.{refl}
use Rattle.listing_lines.proofs.LineLaws.{lines_counted}
use Rattle.listing_lines.proofs.lines.Goals as goal

pub returns : goal.returns
returns c = (refl, λ bytes forms ran. lines_counted bytes c.args.word forms ran)
