-- What is determined meets the contract.
use Rattle.std.proofs.Common.{◌∙◌}
use Rattle.capi.specs.Contract.{Determined}
use Rattle.capi.proofs.Calling.{contracted, bytes_of}
use Rattle.capi.proofs.fuselinda_run.Goals as goal

pub returns : goal.returns
returns c =
    let a = c.args in
    let d : Determined a.problem.now a.budget a.forms.now a.trace.now c.word.result c.run.new.forms c.run.new.trace = (c.word.ensures ∙ c.run.ensures.0, c.run.ensures.1, c.run.ensures.2) in
    (d, contracted a.problem.now a.budget a.forms.now a.trace.now (bytes_of a.problem.now (λ i. (c.type_inv.problem i).fits)) _ _ _ d)
