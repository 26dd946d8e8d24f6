-- Too few bytes are refused by question 2, an operand out of bounds by question 8; else the operands are accepted.
use Rattle.std.proofs.Common.{arith, true, false, ltb, sym, ◌∙◌, rules}
use Rattle.std.proofs.lemmas.Iterator.{YieldsList-from_slice, YieldsList-from_zip}
use Rattle.std.proofs.lemmas.Iterator.Search.{all_from_yields_List}
use borrow.Author.Tests.{tests}
use Rattle.questions.proofs.Returns.{operands_short, operands_are}
use Rattle.questions.proofs.operands_at.Goals as goal

pub returns-in_default : goal.returns-in_default
returns-in_default c = operands_short _ _ (grind (arith, c.in_default.ensures.lookup.0))

pub returns-then-all : goal.returns-then-all
returns-then-all c =
    let found = all_from_yields_List (λ p. ltb p.0 p.1) c.all.new.self _ _ c.all.ensures.ran (YieldsList-from_zip (YieldsList-from_slice c.in-Some.operands.now cc) (YieldsList-from_slice c.args.bounds.now cc)) (λ x b q k. search (rules, tests)) in
    operands_are _ _ c.in-Some.ensures.lookup.0.1 _ c.in-Some.ensures.lookup.0.2 true (sym found ∙ c.if-all.true)

pub returns : goal.returns
returns c =
    let found = all_from_yields_List (λ p. ltb p.0 p.1) c.all.new.self _ _ c.all.ensures.ran (YieldsList-from_zip (YieldsList-from_slice c.in-Some.operands.now cc) (YieldsList-from_slice c.args.bounds.now cc)) (λ x b q k. search (rules, tests)) in
    operands_are _ _ c.in-Some.ensures.lookup.0.1 _ c.in-Some.ensures.lookup.0.2 false (sym found ∙ c.if-all.false)
