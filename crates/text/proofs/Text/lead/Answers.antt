-- Nothing at the start, else the separator.
use Rattle.text.proofs.Texts.{says_nothing}
use Rattle.text.proofs.Separating.{led_none, led_one}
use Rattle.text.proofs.Text.lead.Goals as goal

pub returns-then-self-start-clause-says : goal.returns-then-self-start-clause-says
returns-then-self-start-clause-says c = rw (led_one _ _ _ c.if-self-start.true) c.say.ensures.says

pub returns-else-self-start-clause-says : goal.returns-else-self-start-clause-says
returns-else-self-start-clause-says c = rw (led_none _ _ _ c.if-self-start.false) (says_nothing _)
