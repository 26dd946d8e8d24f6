-- It begins with the scope, for splits with those that have one; a constraint that the test shows at rest is idle, and dropped.
use Rattle.std.proofs.Common.{arith, sym, ◌∙◌}
use Rattle.calculus.proofs.Bools.{and_l}
use Rattle.problem.proofs.Access.{opened_sizes}
use Rattle.bits.proofs.Bits.{bit_of_and}
use Rattle.bits.proofs.Taking.{takes_left}
use Rattle.fits.proofs.FitLaws.{looks}
use Rattle.search.specs.Narrowed.{Narrows}
use Rattle.search.proofs.Narrowing.{rest_idle, narrows_all, narrows_splits, narrows_one}
use Rattle.search.proofs.looked_at.Goals.{then-scope, else-scope}
use Rattle.search.proofs.looked_at.Goals as goal

pub loop-n-init : goal.loop-n-init
loop-n-init c =
    let a = c.args in
    let d : Narrows a.scope.split a.run.now.problem.bytes.now a.b.now.parents a.b.now.rows a.scope.among c.if-scope.kept =
    elim c.if-scope.branch [
      | then-scope w ↦ narrows_splits _ _ _ w.if-scope.true a.run.now.words_are w.kept-is
      | else-scope w ↦ narrows_all _ _ _ _ w.kept-is
    ] in
    rw c.into_iter-n-iterator.ensures.into_iter_gives (record { narrows = d; there = λ i e. c.requires.1 i (d.within i (and_l _ _ (sym (bit_of_and c.if-scope.kept _ i) ∙ e))) })

pub bounds-run-n : goal.bounds-run-n
bounds-run-n c = omega (arith, c.loop-n.invariant.there c.in-Some.n c.in-Some.ensures.steps.set, (opened_sizes _ _ c.args.run.now.problem.opened).0)

pub rests-requires : goal.rests-requires
rests-requires c = (c.requires.0, looks _ c.decode-l.ensures.handled)

pub loop-n-preserved-then-rests : goal.loop-n-preserved-then-rests
loop-n-preserved-then-rests c =
    let r = c.args.run.now in
    let n = c.in-Some.n in
    let i = c.loop-n.invariant in
    record {
      narrows = narrows_one n i.narrows (omega arith) (rest_idle r.problem.bytes.now r.problem.table n _ c.decode-l.result r.problem.opened (i.there n c.in-Some.ensures.steps.set) r.words_are c.decode-l.ensures.is (sym c.rests.ensures ∙ c.if-rests.true)) c.bit_at.ensures (omega arith);
      there = λ k e. i.there k (takes_left c.in-Some.ensures.steps k e);
    }

pub loop-n-preserved : goal.loop-n-preserved
loop-n-preserved c = record { narrows = c.loop-n.invariant.narrows; there = λ k e. c.loop-n.invariant.there k (takes_left c.in-Some.ensures.steps k e) }
