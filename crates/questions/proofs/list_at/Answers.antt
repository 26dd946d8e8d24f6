-- Too few bytes are refused by question 2, a set or a term out of bounds by question 8; any other list is accepted.
use Rattle.std.proofs.Common.{arith, true, false, ltb, sym, refl, ◌∙◌, rules, lt-ltb, le-ltb}
use Rattle.std.proofs.lemmas.Iterator.{YieldsList-from_slice}
use Rattle.std.proofs.lemmas.Iterator.Search.{all_from_yields_List}
use borrow.Author.Tests.{tests}
use Rattle.questions.proofs.Returns.{list_short, list_cut, list_is}
use Rattle.questions.proofs.list_at.Goals as goal
use Rattle.questions.proofs.list_at.Goals.{else-set-names-via-then-set-names+else-all, else-set-names-via-else-set-names}

pub returns-in_default : goal.returns-in_default
returns-in_default c = list_short _ _ _ c.in_default.len_below

pub returns-in_default-get : goal.returns-in_default-get
returns-in_default-get c = list_cut _ _ _ c.in-len2-up.len_at_least _ refl (grind (arith, c.in_default-get.ensures.lookup.0))

pub returns-then-all : goal.returns-then-all
returns-then-all c =
    let found = all_from_yields_List (λ e. ltb e c.args.names.now.nameable) _ _ _ c.all.ensures.ran (YieldsList-from_slice c.in-Some.entries.now cc) (λ x b q k. search (rules, tests)) in
    list_is _ _ _ c.in-len2-up.len_at_least _ refl c.in-Some.ensures.lookup.0.1 _ c.in-Some.ensures.lookup.0.2 true true (lt-ltb _ _ c.if-set-names.true) (sym found ∙ c.if-all.true)

pub returns : goal.returns
returns c = elim c.else-set-names.branch [
  | else-set-names-via-then-set-names+else-all w ↦
      let found = all_from_yields_List (λ e. ltb e c.args.names.now.nameable) _ _ _ w.all.ensures.ran (YieldsList-from_slice c.in-Some.entries.now cc) (λ x b q k. search (rules, tests)) in
      list_is _ _ _ c.in-len2-up.len_at_least _ refl c.in-Some.ensures.lookup.0.1 _ c.in-Some.ensures.lookup.0.2 true false (lt-ltb _ _ w.if-set-names.true) (sym found ∙ w.if-all.false)
  | else-set-names-via-else-set-names w ↦ list_is _ _ _ c.in-len2-up.len_at_least _ refl c.in-Some.ensures.lookup.0.1 _ c.in-Some.ensures.lookup.0.2 false _ (le-ltb _ _ w.if-set-names.false) refl
]
