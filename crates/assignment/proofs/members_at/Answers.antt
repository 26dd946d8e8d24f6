-- A set's members are refused where they are not there, or where they do not ascend.
use Rattle.assignment.specs.Laid.{MembersOf}
use Rattle.assignment.proofs.Layouts.{members_none, members_short, members_unordered, members_there, where_true}
use Rattle.assignment.proofs.members_at.Goals as goal

pub returns-in_err-count : goal.returns-in_err-count
returns-in_err-count c = rw c.from_residual.ensures (members_none _ c.in_err-count.ensures.cases)

pub returns-in_err-members : goal.returns-in_err-members
returns-in_err-members c =
    rw (c.from_residual-in_err-members.ensures, c.in_ok-count.ensures.cases.0) (members_short _ _ c.in_err-members.ensures.cases)

pub returns : goal.returns
returns c =
    let x = c.in_ok-members.ensures.cases in
    let y = c.in_ok-count.ensures.cases in
    rw c.then_some.ensures
    (where_true (MembersOf c.args.bytes.now) _ _
    (members_there _ _ _ _ _ y.0 x.0 x.1 x.2 _ c.ascends.ensures)
    (members_unordered _ _ _ _ _ y.0 x.0 x.1 x.2 _ c.ascends.ensures))
