-- The two workers meet their contracts together: each step of the run is the calculus's, by what the search and the step's act say.
use Rattle.std.proofs.Common.{◌∙◌, refl, arith, ℕ}
use Rattle.std.specs.Prelude.{Some, None}
use Rattle.std.proofs.lemmas.Result.{err_from_is_err_and}
use Rattle.step.specs.Acts.{Rooted}
use Rattle.solver.proofs.Opening.{terms_few, shows}
use Rattle.solver.proofs.Waking.{narrowed, narrowed_splits, widened}
use Rattle.solver.proofs.Taking.{propagating, told, is_placed, first_there, somewhere, not_20, inferred, as_one, low_act, child_sound, child_less}
use Rattle.solver.proofs.Settling.{reached_start, reached_again, step_goes, step_begun, line}
use Rattle.solver.proofs.Workers.{dividing, keepable, split_next, splitting, split_taking, works_form, works_stopped, works_closed, works_split, worked_begin, worked_done, worked_skip, act_rooted, made, opens, worked_next, worked_stop}
use Rattle.solver.proofs.+children_work.Goals as goal
use Rattle.solver.proofs.+children_work.Goals.{children-in-Some+in_ok-work, children-in_default, work-After-act_of-act}

-- ---- the children of a split

pub children-loop-k-init : goal.children-loop-k-init
children-loop-k-init t c =
    let q = c.requires in
    record {
      worked = worked_begin (split_taking c.args.run.now.prepared.problem.opened q.0) q.0.left q.1;
      same = (refl, refl);
    }

pub children-child_at-turn-requires : goal.children-child_at-turn-requires
children-child_at-turn-requires t c =
    (keepable (split_taking c.args.run.now.prepared.problem.opened c.requires.0), rw c.slots-k-end.ensures at c.loop-k-test.true)

pub children-work-requires : goal.children-work-requires
children-work-requires t c =
    let p = c.args.run.now.prepared in
    let q = c.requires in
    let s = split_taking p.problem.opened q.0 in
    let v = c.loop-k.invariant.worked in
    let l = rw c.slots-k-end.ensures at c.loop-k-test.true in
    let u = c.child_at-turn.ensures in
    let e = as_one _ _ c.perform.ensures in
    let m = made s v l u.0 c.in-Some.is e in
    let x = opens s v l u.0 c.in-Some.is e in (
      omega (arith, child_less s m x, c.decreases),
      (
        widened p.problem.opened q.0.ready p.words_are _ _ (act_rooted s v l u.0 c.in-Some.is e) (low_act s _ (rw c.in-Some.is at u.1)) c.wakes-more.ensures e (child_sound s m x),
        v.begun,
      ),
    )

pub children-returns-in_err-work-clause-comes_to : goal.children-returns-in_err-work-clause-comes_to
children-returns-in_err-work-clause-comes_to t c =
    let s = split_taking c.args.run.now.prepared.problem.opened c.requires.0 in
    let p = err_from_is_err_and c.from_residual.result c.from_residual.ensures.1 in
    rw (p.1, p.2) (worked_stop s c.loop-k.invariant.worked (rw c.slots-k-end.ensures at c.loop-k-test.true) c.child_at-turn.ensures.0 c.in-Some.is (as_one _ _ c.perform.ensures) _ _ _ _ c.in_err-work.ensures.comes_to)

pub children-loop-k-preserved : goal.children-loop-k-preserved
children-loop-k-preserved t c =
    let s = split_taking c.args.run.now.prepared.problem.opened c.requires.0 in
    let v = c.loop-k.invariant in
    let l = rw c.slots-k-end.ensures at c.loop-k-test.true in
    let u = c.child_at-turn.ensures.0 in
    elim c.match-turn.branch [
      | children-in-Some+in_ok-work w ↦ rw w.out-is (record { worked = worked_next s v.worked l u w.in-Some.is (as_one _ _ w.perform.ensures) _ w.in_ok-work.ensures.comes_to; same = let z = w.in_ok-work.ensures.same_buffers in (z.0 ∙ v.same.0, z.1 ∙ v.same.1) })
      | children-in_default w ↦ rw w.out-is (record { worked = worked_skip s v.worked l u w.in_default.is; same = v.same })
    ]

pub children-returns-clause-comes_to : goal.children-returns-clause-comes_to
children-returns-clause-comes_to t c =
    let s = split_taking c.args.run.now.prepared.problem.opened c.requires.0 in
    worked_done s c.loop-k.invariant.worked (rw c.slots-k-end.ensures at c.loop-k-test.false)

-- ---- a branch

pub work-loop-found-init : goal.work-loop-found-init
work-loop-found-init t c = let p = c.requires in record { reached = reached_start p.1; ready = p.0; same = (refl, refl) }

pub work-act_of-act-requires : goal.work-act_of-act-requires
work-act_of-act-requires t c =
    let y = c.loop-found.invariant.ready in
    let k = propagating c.args.run.now.prepared.problem.opened y (rw c.in-Some.is at c.search.ensures) in
    record { falls = y.sound.good.falls; somewhere = somewhere k; not_20 = not_20 k }

-- the act is on roots
roots_in : (t : ℕ) (c : work-After-act_of-act t) → Rooted c.loop-found.at.parents c.act_of-act.result
roots_in t c =
    let k = propagating c.args.run.now.prepared.problem.opened c.loop-found.invariant.ready (rw c.in-Some.is at c.search.ensures) in
    (c.act_of-act.ensures.0 _ (is_placed k) (first_there k)).rooted

pub work-perform-conflict-requires : goal.work-perform-conflict-requires
work-perform-conflict-requires t c = roots_in t (goal.at.work-perform-conflict-requires t c).After-act_of-act

pub work-returns-in_err-take_step-clause-comes_to : goal.work-returns-in_err-take_step-clause-comes_to
work-returns-in_err-take_step-clause-comes_to t c =
    let k = propagating c.args.run.now.prepared.problem.opened c.loop-found.invariant.ready (rw c.in-Some.is at c.search.ensures) in
    let m = inferred k c.act_of-act.ensures.0 (as_one _ _ c.perform-conflict.ensures) in
    let p = err_from_is_err_and c.from_residual.result c.from_residual.ensures.1 in
    rw (p.1, p.2) (works_stopped c.loop-found.invariant.reached k (told k m _ refl) _ _ _ _ c.in_err-take_step.ensures.writes)

pub work-returns-then-conflict-clause-comes_to : goal.work-returns-then-conflict-clause-comes_to
work-returns-then-conflict-clause-comes_to t c =
    let k = propagating c.args.run.now.prepared.problem.opened c.loop-found.invariant.ready (rw c.in-Some.is at c.search.ensures) in
    let m = inferred k c.act_of-act.ensures.0 (as_one _ _ c.perform-conflict.ensures) in
    works_closed c.loop-found.invariant.reached k m c.if-conflict.true _ (rw c.if-conflict.true at c.in_ok-take_step.ensures.writes)

pub work-loop-found-smaller : goal.work-loop-found-smaller
work-loop-found-smaller t c =
    let k = propagating c.args.run.now.prepared.problem.opened c.loop-found.invariant.ready (rw c.in-Some.is at c.search.ensures) in
    let m = inferred k c.act_of-act.ensures.0 (as_one _ _ c.perform-conflict.ensures) in
    child_less k m c.if-conflict.false

pub work-loop-found-preserved : goal.work-loop-found-preserved
work-loop-found-preserved t c =
    let p = c.args.run.now.prepared in
    let v = c.loop-found.invariant.reached in
    let y = c.loop-found.invariant.ready in
    let f = (rw c.in-Some.is at c.search.ensures) _ (shows y.sound) y.propagation in
    let k = propagating p.problem.opened y (rw c.in-Some.is at c.search.ensures) in
    let e = as_one _ _ c.perform-conflict.ensures in
    let m = inferred k c.act_of-act.ensures.0 e in
    let a = c.act_of-act.result in record {
      reached = reached_again v (step_goes k m c.if-conflict.false v.begun (rw c.if-conflict.false at c.in_ok-take_step.ensures.writes));
      ready = widened p.problem.opened (narrowed p.problem.opened y (Some _) f) p.words_are a _ (roots_in t (goal.at.work-loop-found-preserved t c).After-act_of-act) (low_act k a c.act_of-act.ensures.1) c.wakes-more.ensures e (child_sound k m c.if-conflict.false);
      same = let x = c.loop-found.invariant.same in let z = c.in_ok-take_step.ensures.same_buffers in (z.0 ∙ x.0, z.1 ∙ x.1);
    }

-- ---- a branch that propagation has settled

pub work-list_form-requires : goal.work-list_form-requires
work-list_form-requires t c =
    let g = c.loop-found.invariant.reached.begun in
    (terms_few _ _ c.args.run.now.prepared.problem.opened, c.loop-found.invariant.ready.sound.good.falls, g.fine.written, g.no_terms)

pub work-returns-in_default-search-clause-comes_to : goal.work-returns-in_default-search-clause-comes_to
work-returns-in_default-search-clause-comes_to t c =
    let y = c.loop-found.invariant.ready in
    works_form c.loop-found.invariant.reached c.args.run.now.prepared.problem.opened y.sound ((rw c.in_default.is at c.search.ensures) _ (shows y.sound) y.propagation).0 (c.in_default-search.ensures _ (shows y.sound) y.splits).0 _ c.list_form.ensures.lists

pub work-kept-left-requires : goal.work-kept-left-requires
work-kept-left-requires t c =
    let y = c.loop-found.invariant.ready in
    keepable (dividing c.args.run.now.prepared.problem.opened y ((rw c.in_default.is at c.search.ensures) _ (shows y.sound) y.propagation).0 c.in-Some-search.ensures)

pub work-returns-in_err-take_step-2-clause-comes_to : goal.work-returns-in_err-take_step-2-clause-comes_to
work-returns-in_err-take_step-2-clause-comes_to t c =
    let y = c.loop-found.invariant.ready in
    let r = dividing c.args.run.now.prepared.problem.opened y ((rw c.in_default.is at c.search.ensures) _ (shows y.sound) y.propagation).0 c.in-Some-search.ensures in
    let p = err_from_is_err_and c.from_residual-in_err-take_step-2.result c.from_residual-in_err-take_step-2.ensures.1 in
    rw (p.1, p.2) (works_stopped c.loop-found.invariant.reached r (split_next r _ c.kept-left.type_inv (c.kept-left.ensures _ y.sound) _ c.child_count.ensures) _ _ _ _ c.in_err-take_step-2.ensures.writes)

pub work-children-requires : goal.work-children-requires
work-children-requires t c =
    let o = c.args.run.now.prepared.problem.opened in
    let v = c.loop-found.invariant.reached in
    let y = c.loop-found.invariant.ready in
    let z = (rw c.in_default.is at c.search.ensures) _ (shows y.sound) y.propagation in
    let f = c.in-Some-search.ensures _ (shows y.sound) y.splits in
    let r = dividing o y z.0 c.in-Some-search.ensures in (
      omega (arith, v.less, c.decreases),
      (
        splitting r _ c.kept-left.type_inv (c.kept-left.ensures _ y.sound) (narrowed_splits o (narrowed o y None z) (Some _) f),
        step_begun (line c.in-Some-search.found _) refl v.begun c.in_ok-take_step-2.ensures.writes,
      ),
    )

pub work-returns-clause-comes_to : goal.work-returns-clause-comes_to
work-returns-clause-comes_to t c =
    let y = c.loop-found.invariant.ready in
    let r = dividing c.args.run.now.prepared.problem.opened y ((rw c.in_default.is at c.search.ensures) _ (shows y.sound) y.propagation).0 c.in-Some-search.ensures in
    works_split c.loop-found.invariant.reached r _ (split_next r _ c.kept-left.type_inv (c.kept-left.ensures _ y.sound) _ c.child_count.ensures) _ c.in_ok-take_step-2.ensures.writes _ c.children.ensures.comes_to
