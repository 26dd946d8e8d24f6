-- A record has the three bytes of each of the problem's terms.
use Rattle.listing_lines.proofs.Values.{term_there}
use Rattle.listing_lines.proofs.form.Form.is_inside.Goals as goal

pub root_in-requires : goal.root_in-requires
root_in-requires c = term_there c.args.self.now _ c.requires.0

pub inside_in-requires : goal.inside_in-requires
inside_in-requires c = term_there c.args.self.now _ c.requires.0
