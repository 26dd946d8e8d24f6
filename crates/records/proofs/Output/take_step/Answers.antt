-- Where the budget is spent, the run stops; else the step is written.
use Rattle.std.proofs.Common.{sym, ◌∙◌}
use Rattle.calculus.specs.Run.{DONE}
use Rattle.records.specs.State.{written}
use Rattle.records.proofs.FormWriting.{noted_there, noted_not}
use Rattle.records.proofs.Output.take_step.Goals as goal

pub returns-then-self-budget-clause-writes : goal.returns-then-self-budget-clause-writes
returns-then-self-budget-clause-writes c = sym (noted_not c.args.budget _ (written c.args.self.now DONE) c.if-self-budget.true)

pub returns-clause-writes : goal.returns-clause-writes
returns-clause-writes c = c.write_step.ensures.writes ∙ sym (noted_there c.args.budget _ (written c.args.self.now DONE) c.if-self-budget.false)
