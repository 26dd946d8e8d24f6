-- What is determined meets the contract.
use Rattle.std.proofs.Common.{◌∙◌}
use Rattle.capi.proofs.Calling.{bytes_of}
use Rattle.capi.proofs.CheckCalling.{contracted}
use Rattle.capi.proofs.fuselinda_check.Goals as goal

pub returns : goal.returns
returns c =
    let a = c.args in
    let d = c.word.ensures ∙ c.checked.ensures in
    (d, contracted a.problem.now a.assignment.now (bytes_of a.problem.now (λ i. (c.type_inv.problem i).fits)) (bytes_of a.assignment.now (λ i. (c.type_inv.assignment i).fits)) _ d)
