-- A root that is a constant has its value, any other 32,001 and its number; a root is at most its term, so the sum fits.
use Rattle.std.proofs.Common.{◌∙◌, arith}
use Rattle.listing_lines.proofs.Values.{term_there, root_low, constant_value, free_value}
use Rattle.listing_lines.proofs.form.Form.value.Goals as goal

pub root_in-h-requires : goal.root_in-h-requires
root_in-h-requires c = term_there c.args.self.now _ c.requires

pub returns-then-h-self : goal.returns-then-h-self
returns-then-h-self c = c.constant.ensures.0 ∙ constant_value c.args.self.now _ c.requires _ c.root_in-h.ensures c.if-h-self.true

pub overflow_cast-result : goal.overflow_cast-result
overflow_cast-result c = omega (arith, root_low c.args.self.now _ c.requires _ c.root_in-h.ensures)

pub overflow_add-result : goal.overflow_add-result
overflow_add-result c = omega (arith, root_low c.args.self.now _ c.requires _ c.root_in-h.ensures)

pub returns : goal.returns
returns c = free_value c.args.self.now _ c.requires _ c.root_in-h.ensures c.if-h-self.false
