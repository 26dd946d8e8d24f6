-- Within these bounds is in range, as the calculus has it.
use Rattle.questions.proofs.constants_ok.Goals as goal

pub returns : goal.returns
returns c = c.rising.ensures
