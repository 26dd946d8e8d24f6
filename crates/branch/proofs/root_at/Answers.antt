-- The parent is the root where it is its own parent.
use Rattle.std.proofs.Common.{arith, ◌∙◌, get_or}
use Rattle.branch.proofs.Roots.{parent_le, root_self, root_step}
use Rattle.branch.proofs.root_at.Goals as goal

pub returns-then-next-near : goal.returns-then-next-near
returns-then-next-near c =
    let ps = c.args.parents.now in
    let l = parent_le ps c.requires.1 c.args.t c.requires.0 in
    root_self ps c.requires.1 (get_or ps c.args.t 0) (omega arith) c.if-next-near.true ∙ root_step ps c.requires.1 c.args.t c.requires.0
