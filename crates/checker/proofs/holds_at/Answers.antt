use Rattle.std.proofs.Common.{arith, rules, ◌∙◌}
use borrow.Author.Tests.{tests}
use Rattle.std.proofs.lemmas.Iterator.{YieldsList-from_slice}
use Rattle.std.proofs.lemmas.Iterator.Search.{all_from_yields_List}
use Rattle.checker.specs.Tested.{related_at}
use Rattle.checker.proofs.Pairs.{number_of, all_in_pairs}
use Rattle.checker.proofs.holds_at.Goals as goal

pub returns : goal.returns
returns c =
    let s = c.args in
    all_from_yields_List (λ m. related_at s.k s.l.now s.m.now s.r.now (number_of m)) _ _ _ c.all.ensures.ran (YieldsList-from_slice c.as_chunks.result.0.now cc) (λ x b q k. search (rules, tests))
    ∙ rw c.as_chunks.ensures.front (all_in_pairs (related_at s.k s.l.now s.m.now s.r.now) _ s.part.now (omega arith))
