-- The word has the first and the last premise of the rule, and bit 16 where these differ at sets 0, 1 and 2.
use Rattle.marks.proofs.Needing.{one_premise, two_premises}
use Rattle.marks.proofs.premises.Goals as goal

pub returns-then-form : goal.returns-then-form
returns-then-form c = one_premise _ (c.requires.0.low_pair.0, c.requires.0.low_pair.1, c.requires.1) c.row_of-r.ensures c.row_of-form.ensures c.bit_at.ensures c.bit_at-2.ensures c.if-form.true

pub returns : goal.returns
returns c = two_premises _ (c.requires.0.low_pair.0, c.requires.0.low_pair.1, c.requires.1) c.row_of-r.ensures c.row_of-form.ensures c.bit_at.ensures c.bit_at-2.ensures c.bit_at-3.ensures
