-- Each return is a question answered "no", the lowest constraint that fails, or HOLDS.
use Rattle.std.proofs.lemmas.Result.{err_from_is_err_and}
use Rattle.problem.proofs.Access.{opened_sizes}
use Rattle.assignment.proofs.Layouts.{read_into}
use Rattle.capi.proofs.Calling.{read_refused, read_parsed}
use Rattle.capi.proofs.CheckCalling.{no_problem, no_assignment, check_fails, check_holds}
use Rattle.capi.proofs.checked.Goals as goal

pub returns-in_err-problem : goal.returns-in_err-problem
returns-in_err-problem c =
    let p = err_from_is_err_and c.from_residual.result c.from_residual.ensures.1 in
    rw (p.1, p.2) (no_problem _ _ _ (read_refused c.args.problem.now _ c.in_err-problem.ensures))

pub lay_out-requires : goal.lay_out-requires
lay_out-requires c = let p = c.in_ok-problem.problem in (opened_sizes p.bytes.now p.table p.opened).1

pub returns-in_default : goal.returns-in_default
returns-in_default c =
    let o = read_parsed c.args.problem.now _ c.in_ok-problem.ensures in
    no_assignment _ c.args.assignment.now o.0 o.1 _ o.2.1 c.in_default.ensures

pub returns-in-Some-lowest : goal.returns-in-Some-lowest
returns-in-Some-lowest c =
    let o = read_parsed c.args.problem.now _ c.in_ok-problem.ensures in
    rw c.from.ensures (check_fails _ c.args.assignment.now c.in_ok-problem.problem o.0 o.1 o.2 c.in-Some.handed (read_into _ _ _ _ c.in-Some.ensures) _ c.in-Some-lowest.ensures)

pub returns-in-None : goal.returns-in-None
returns-in-None c =
    let o = read_parsed c.args.problem.now _ c.in_ok-problem.ensures in
    rw c.from-in-None.ensures (check_holds _ c.args.assignment.now c.in_ok-problem.problem o.0 o.1 o.2 c.in-Some.handed (read_into _ _ _ _ c.in-Some.ensures) c.in-None.ensures)
