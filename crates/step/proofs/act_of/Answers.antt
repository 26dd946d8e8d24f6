-- Each arm is the act of its kind of constraint.
use Rattle.std.proofs.Common.{sym, subst, rules}
use Rattle.calculus.specs.Limits.{most_sets}
use Rattle.calculus.specs.Invariants.{ConstraintIn}
use Rattle.constraints.specs.declared.Constraint.{Constraint}
use Rattle.constraints.specs.Decoded.{decoded}
use Rattle.step.specs.Acts.{Under, Acts}
use Rattle.step.proofs.Acting.{root_under, join_under}
use Rattle.step.proofs.Children.{by_kind, noted, sets_child, sets_low, sets_acts, inside_acts, nonmember_acts, same_acts, different_acts}
use Rattle.step.proofs.act_of.Goals as goal

pub child_of-requires : goal.child_of-requires
child_of-requires c = sets_child (search rules) c.requires

pub note_of-requires-in-Related : goal.note_of-requires-in-Related
note_of-requires-in-Related c = sets_low (search rules) c.requires c.child_of.ensures

pub returns-in-Member : goal.returns-in-Member
returns-in-Member c = noted c.args.b.now _ c.alone-in-Member.result (inside_acts c.args.b.now c.requires.falls c.args.at.now _ _ c.root-r.ensures.0 (search rules) c.requires.not_20 _ c.alone-in-Member.ensures) c.note_of-in-Member.ensures

pub returns-in-Nonmember : goal.returns-in-Nonmember
returns-in-Nonmember c = noted c.args.b.now _ c.alone.result (by_kind c.args.b.now c.in-Nonmember.is (nonmember_acts c.args.b.now c.requires.falls c.args.at.now _ _ c.root-r.ensures.0 _ _ _ c.alone.ensures)) c.note_of.ensures

pub returns-in-Same : goal.returns-in-Same
returns-in-Same c = (
  by_kind c.args.b.now c.in-Same.is (λ q P n. subst (Acts _ _ _ _ _) (sym c.join_of.ensures) (same_acts c.args.b.now c.requires.falls c.args.at.now _ _ c.root-r.ensures.0 _ _ _ c.root.ensures.0 q P n)),
  λ n i l. subst (Under n) (sym c.join_of.ensures)
      (let w = subst (λ (x : Constraint). ConstraintIn n most_sets (decoded x)) c.in-Same.is i in join_under (root_under _ _ c.requires.falls c.root-r.ensures.0 l) (root_under _ _ c.requires.falls c.root.ensures.0 w.1)),
)

pub returns-in-Different : goal.returns-in-Different
returns-in-Different c = (by_kind c.args.b.now c.in-Different.is (different_acts c.args.b.now c.requires.falls c.args.at.now _ _ c.root-r.ensures.0 _ _), λ n i l. tt)

pub returns-in-Related : goal.returns-in-Related
returns-in-Related c = noted c.args.b.now _ c.child_of.result (sets_acts c.args.b.now c.requires.falls c.args.at.now _ _ c.root-r.ensures.0 (search rules) _ c.child_of.ensures) c.note_of-in-Related.ensures
