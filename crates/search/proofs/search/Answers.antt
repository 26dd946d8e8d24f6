-- The turn of a constraint, of a rule, of a root; and the two returns.
use Rattle.std.proofs.Common.{arith, refl}
use Rattle.problem.proofs.Access.{opened_sizes, constraint_count}
use Rattle.search.proofs.Narrowing.{quiet_within}
use Rattle.search.proofs.Finding.{rules_start, search_over, next_constraint, asked, roots_start, next_rule, next_root, search_hit}
use Rattle.search.proofs.search.Goals as goal

pub search-init : goal.search-init
search-init c = rw c.into_iter-n-iterator.ensures.into_iter_gives (record { nothing = refl; there = λ i e. c.requires.1 i (c.looked_at-looked.ensures.within i e); quiet = λ b z q. q })

pub loop-rule-init : goal.loop-rule-init
loop-rule-init c =
    let r = c.args.run.now in
    let t = c.search.invariant.there c.in-Some.n c.in-Some.ensures.steps.set in
    rw (c.into_iter-rule-iterator.ensures.into_iter_gives, c.rules-rule-items.ensures.0, c.rules-rule-items.ensures.1) (rules_start r.problem.table c.in-Some.n c.search.invariant.nothing r.problem.opened r.words_are c.requires.0 t c.span_of.ensures c.decode-l.ensures)

pub search-preserved : goal.search-preserved
search-preserved c = next_constraint c.search.invariant c.in-Some.ensures.steps c.loop-rule.invariant (omega (arith, c.in-None-rule.ensures.steps.1.0))

pub bounds-run-n : goal.bounds-run-n
bounds-run-n c = omega (arith, c.search.invariant.there c.in-Some.n c.in-Some.ensures.steps.set, (opened_sizes _ _ c.args.run.now.problem.opened).0)

pub fitting-fit-requires : goal.fitting-fit-requires
fitting-fit-requires c =
    let t = c.in-Some-rule.ensures.steps in
    (c.requires.0, rw t.1.1 (asked c.loop-rule.invariant (omega (arith, t.1.0))))

pub loop-h-init : goal.loop-h-init
loop-h-init c =
    let t = c.in-Some-rule.ensures.steps in
    rw (c.into_iter-h-iterator.ensures.into_iter_gives, t.1.1) (roots_start c.loop-rule.invariant (rw t.1.1 at c.fitting-fit.ensures))

pub loop-rule-preserved : goal.loop-rule-preserved
loop-rule-preserved c =
    let t = c.in-Some-rule.ensures.steps in
    rw (t.0, t.1.2) (next_rule c.loop-rule.invariant (rw t.1.1 at c.loop-h.invariant) c.in-None-h.ensures.steps.0)

pub loop-h-preserved : goal.loop-h-preserved
loop-h-preserved c = next_root c.loop-h.invariant c.in-Some-h.ensures.steps (omega (arith, c.if-h-run.false))

pub returns-in-None : goal.returns-in-None
returns-in-None c =
    let r = c.args.run.now.problem in
    λ b z q. search_over c.search.invariant c.in-None.ensures.steps.0 b z (quiet_within _ r.table.terms b (opened_sizes _ _ r.opened).2 c.looked_at-looked.ensures z q)

pub returns-then-h-run : goal.returns-then-h-run
returns-then-h-run c =
    let r = c.args.run.now.problem in
    let t = c.in-Some-rule.ensures.steps in
    λ b z q. rw t.1.1 (search_hit c.search.invariant c.in-Some.ensures.steps c.loop-rule.invariant (omega (arith, t.1.0)) (rw t.1.1 at c.loop-h.invariant) c.in-Some-h.ensures.steps c.if-h-run.true (omega arith) (omega arith) c.low_bits.ensures
    (λ i e. omega (arith, constraint_count r.bytes.now r.table r.opened, c.requires.1 i (c.looked_at-looked.ensures.within i e))) b z (quiet_within _ r.table.terms b (opened_sizes _ _ r.opened).2 c.looked_at-looked.ensures z q))
