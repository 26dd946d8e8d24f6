-- The start is sound, its lists are prepared, and working it is the calculus's run.
use Rattle.std.proofs.Common.{refl, arith}
use Rattle.branch.proofs.Laws.{start_held}
use Rattle.branch.proofs.Rowing.{start_sound}
use Rattle.problem.proofs.Access.{opened_sizes}
use Rattle.solver.proofs.Opening.{constants_few, terms_few}
use Rattle.solver.proofs.Waking.{all_ready}
use Rattle.solver.proofs.Running.{begun_fine, runs}
use Rattle.solver.proofs.solve.Goals as goal

pub low_bits-all-requires : goal.low_bits-all-requires
low_bits-all-requires c = omega (arith, (opened_sizes _ _ c.args.problem.now.opened).0)

pub start-start-requires : goal.start-start-requires
start-start-requires c = let o = c.args.problem.now.opened in omega (arith, constants_few _ _ o, terms_few _ _ o)

pub work-end-requires : goal.work-end-requires
work-end-requires c =
    rw (c.prepare.ensures.0, c.prepare.ensures.1)
    (all_ready c.args.problem.now.opened (start_sound _ _ c.start-start.ensures) c.low_bits-all.ensures, record { fine = begun_fine _ _ _ _ c.requires.0 c.requires.1; no_terms = λ _. refl })

pub returns : goal.returns
returns c = λ prob p.
    let w = rw (c.prepare.ensures.0, c.prepare.ensures.1) at c.work-end.ensures.comes_to in
    let r = runs _ _ c.args.problem.now.opened _ _ (start_held _ _ c.start-start.ensures) _ _ _ c.requires.1 w prob p in
    grind arith
