-- A variable's number, or a set's members, stand right after the letter and the equals sign.
use Rattle.std.proofs.Common.{sym, arith}
use Rattle.text.proofs.Texts.{says_more}
use Rattle.listing_lines.proofs.Values.{known}
use Rattle.listing_lines.proofs.Items.{variable_there, variable_is, set_there, set_is}
use Rattle.listing_lines.proofs.form.Form.say_item.Goals as goal

pub bounds-self-constants : goal.bounds-self-constants
bounds-self-constants c = variable_there c.args.self.now _ c.if-k-variables.true

pub value-requires : goal.value-requires
value-requires c = omega (arith, known c.args.self.now)

pub overflow_cast-constants-then-k-variables : goal.overflow_cast-constants-then-k-variables
overflow_cast-constants-then-k-variables c = omega (arith, known c.args.self.now)

pub returns-then-k-variables-clause-says : goal.returns-then-k-variables-clause-says
returns-then-k-variables-clause-says c = rw (variable_is c.args.self.now _ c.if-k-variables.true, sym c.value.ensures) (says_more (omega arith) c.say.ensures.says c.number.ensures.says)

pub bounds-self-constants-else-k-variables : goal.bounds-self-constants-else-k-variables
bounds-self-constants-else-k-variables c = set_there c.args.self.now _ c.if-k-variables.false c.requires.0

pub say_members-requires : goal.say_members-requires
say_members-requires c = (omega (arith, known c.args.self.now), omega arith)

pub returns-else-k-variables-clause-says : goal.returns-else-k-variables-clause-says
returns-else-k-variables-clause-says c = rw (set_is c.args.self.now _ c.if-k-variables.false c.requires.0) (says_more (omega arith) c.say-else-k-variables.ensures.says c.say_members.ensures.says)
