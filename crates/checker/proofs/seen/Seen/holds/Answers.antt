-- A problem's constraints name only terms and sets that it has; the other arms' tests the check finds.
use Rattle.std.proofs.Common.{sym, ap, ◌∙◌}
use Rattle.calculus.specs.Check.{holds?}
use Rattle.checker.specs.Tested.{seen}
use Rattle.checker.proofs.Holding.{named, list_there, list_test, same_set}
use Rattle.checker.proofs.seen.Seen.holds.Goals as goal

pub members-requires : goal.members-requires
members-requires c = (named c.args.self.now c.requires c.decode.ensures.is c.in-Member.is).1

pub value-requires : goal.value-requires
value-requires c = (named c.args.self.now c.requires c.decode.ensures.is c.in-Member.is).0

pub members-requires-in-Nonmember : goal.members-requires-in-Nonmember
members-requires-in-Nonmember c = (named c.args.self.now c.requires c.decode.ensures.is c.in-Nonmember.is).1

pub value-requires-in-Nonmember : goal.value-requires-in-Nonmember
value-requires-in-Nonmember c = (named c.args.self.now c.requires c.decode.ensures.is c.in-Nonmember.is).0

pub value-requires-in-Same : goal.value-requires-in-Same
value-requires-in-Same c = (named c.args.self.now c.requires c.decode.ensures.is c.in-Same.is).0

pub value-requires-in-Same-2 : goal.value-requires-in-Same-2
value-requires-in-Same-2 c = (named c.args.self.now c.requires c.decode.ensures.is c.in-Same.is).1

pub value-requires-in-Different : goal.value-requires-in-Different
value-requires-in-Different c = (named c.args.self.now c.requires c.decode.ensures.is c.in-Different.is).0

pub value-requires-in-Different-2 : goal.value-requires-in-Different-2
value-requires-in-Different-2 c = (named c.args.self.now c.requires c.decode.ensures.is c.in-Different.is).1

pub members-requires-in-Related : goal.members-requires-in-Related
members-requires-in-Related c = (named c.args.self.now c.requires c.decode.ensures.is c.in-Related.is).0

pub members-requires-in-Related-2 : goal.members-requires-in-Related-2
members-requires-in-Related-2 c = (named c.args.self.now c.requires c.decode.ensures.is c.in-Related.is).1

pub members-requires-in-Related-3 : goal.members-requires-in-Related-3
members-requires-in-Related-3 c = (named c.args.self.now c.requires c.decode.ensures.is c.in-Related.is).2

pub members-requires-in-Negated : goal.members-requires-in-Negated
members-requires-in-Negated c = (named c.args.self.now c.requires c.decode.ensures.is c.in-Negated.is).0

pub members-requires-in-Negated-2 : goal.members-requires-in-Negated-2
members-requires-in-Negated-2 c = (named c.args.self.now c.requires c.decode.ensures.is c.in-Negated.is).1

pub members-requires-in-Negated-3 : goal.members-requires-in-Negated-3
members-requires-in-Negated-3 c = let r = named c.args.self.now c.requires c.decode.ensures.is c.in-Negated.is in same_set r.2 r.0

pub members-requires-in-Listed : goal.members-requires-in-Listed
members-requires-in-Listed c = (list_there c.args.self.now c.requires c.decode.ensures.is c.in-Listed.is).0

pub exactly-requires : goal.exactly-requires
exactly-requires c = (list_there c.args.self.now c.requires c.decode.ensures.is c.in-Listed.is).1

pub returns-in-Listed : goal.returns-in-Listed
returns-in-Listed c =
    let s = c.args.self.now in
    let k = c.in-Listed in
    c.exactly.ensures
    ∙ list_test s k.field-0 c.members-in-Listed.result.now k.entries.now k.a.0 c.members-in-Listed.ensures
    ∙ ap (holds? (seen s)) (sym (rw k.is at c.decode.ensures.is))
