-- Each return is a question answered "no", or the run.
use Rattle.std.proofs.lemmas.Result.{err_from_is_err_and}
use Rattle.capi.proofs.Calling.{read_refused, read_parsed, no_problem, over_budget, short_trace, run_bounds, run_ended}
use Rattle.capi.proofs.run.Goals as goal

pub returns-in_err-problem : goal.returns-in_err-problem
returns-in_err-problem c =
    let p = err_from_is_err_and c.from_residual.result c.from_residual.ensures.1 in
    rw (p.1, p.2) (no_problem _ _ _ _ _ (read_refused c.args.problem.now _ c.in_err-problem.ensures))

pub returns-then-budget : goal.returns-then-budget
returns-then-budget c =
    let a = c.args in
    let o = read_parsed a.problem.now _ c.in_ok-problem.ensures in
    over_budget a.problem.now a.budget a.forms.now a.trace.now o.0 o.1 c.if-budget.true

pub returns-then-trace-steps : goal.returns-then-trace-steps
returns-then-trace-steps c =
    let a = c.args in
    let o = read_parsed a.problem.now _ c.in_ok-problem.ensures in
    short_trace a.problem.now a.budget a.forms.now a.trace.now o.0 o.1 c.if-budget.false c.if-trace-steps.true

pub ended-requires : goal.ended-requires
ended-requires c =
    let a = c.args in
    let o = read_parsed a.problem.now _ c.in_ok-problem.ensures in
    run_bounds a.problem.now a.budget a.forms.now a.trace.now o.0 o.1 c.if-budget.false c.if-trace-steps.false _ o.2.0 _ _ _ _ c.solve.ensures

pub returns : goal.returns
returns c =
    let a = c.args in
    let o = read_parsed a.problem.now _ c.in_ok-problem.ensures in
    run_ended a.problem.now a.budget a.forms.now a.trace.now o.0 o.1 c.if-budget.false c.if-trace-steps.false _ o.2.0 _ _ _ _ c.solve.ensures _ c.ended.ensures
