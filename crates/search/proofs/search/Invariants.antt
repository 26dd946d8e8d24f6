-- Over the constraints: nothing is found yet, and those that are not left are idle. Over the rules: those before the next do not apply. Over the roots: the rule applies first at the lowest that is left.
use Rattle.std.proofs.Common.{get_or}
use Rattle.search.proofs.Finding.{AtMask, AtRule, AtRoot}
use Rattle.search.proofs.search.Given as goal

abbrev pub invariant-search : goal.invariant-search
invariant-search l = AtMask l.scope.split l.run.problem.table.terms l.run.problem.bytes.now l.b.parents l.b.rows l.run.problem.table.constraints l.looked l.n-iterator.0 l.found

abbrev pub invariant-loop-rule : goal.invariant-loop-rule
invariant-loop-rule l = AtRule l.scope.split l.run.problem.table.terms l.run.problem.bytes.now l.b.parents l.b.rows l.n l.rule-iterator.start l.rule-iterator.end (get_or l.run.entries l.n 0) l.l l.found

abbrev pub invariant-loop-h : goal.invariant-loop-h
invariant-loop-h l = AtRoot l.scope.split l.run.problem.table.terms l.run.problem.bytes.now l.b.parents l.b.rows l.n l.rule l.h-iterator.0 l.found
