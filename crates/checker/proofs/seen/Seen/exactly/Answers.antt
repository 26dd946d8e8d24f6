-- The members are tested pair by pair, and then the entries.
use Rattle.std.proofs.Common.{◌≡◌, arith, rules, ◌∙◌}
use Rattle.std.proofs.lemmas.Iterator.{YieldsList-from_slice}
use Rattle.std.proofs.lemmas.Iterator.Search.{all_from_yields_List}
use Rattle.calculus.specs.Lists.{all}
use Rattle.calculus.specs.Reading.{words}
use Rattle.calculus.specs.Check.{has}
use Rattle.std.proofs.Common.{map}
use Rattle.checker.specs.Tested.{value_at}
use Rattle.checker.proofs.Pairs.{number_of, all_in_pairs, first_fails, then_second}
use Rattle.checker.proofs.seen.Seen.exactly.Goals as goal
use Rattle.checker.proofs.seen.Seen.exactly.Goals.{After-all}

-- the test of the members
members_pass : (c : After-all) → c.all.result ≡ all (has (map (value_at c.args.self.now) c.args.list.now)) (words c.args.members.now)
members_pass c =
    let s = c.args in
    all_from_yields_List (λ m. has (map (value_at s.self.now) s.list.now) (number_of m)) _ _ _ c.all.ensures.ran (YieldsList-from_slice c.as_chunks.result.0.now cc) (λ x b q k. search rules)
    ∙ rw c.as_chunks.ensures.front (all_in_pairs (has (map (value_at s.self.now) s.list.now)) _ s.members.now (omega arith))

pub returns-then-all : goal.returns-then-all
returns-then-all c =
    let s = c.args in
    then_second _ _ _ (members_pass (goal.at.returns-then-all c).After-all) c.if-all.true
    (all_from_yields_List (λ e. has (words s.members.now) (value_at s.self.now e)) _ _ _ c.all-then-all.ensures.ran (YieldsList-from_slice s.list.now c.iter-then-all.ensures.rest) (λ x b q k. grind (arith, k)))

pub returns-else-all : goal.returns-else-all
returns-else-all c = first_fails _ _ _ (members_pass (goal.at.returns-else-all c).After-all) c.if-all.false
