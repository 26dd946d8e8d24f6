-- A turn writes the root of the next term and its class's masks.
use Rattle.std.proofs.Common.{sym, ◌∙◌}
use Rattle.calculus.specs.Limits.{most_terms}
use Rattle.calculus.specs.Forms.{record_length}
use Rattle.branch.specs.Held.{held}
use Rattle.branch.proofs.Roots.{root_is}
use Rattle.branch.proofs.Recording.{record_more}
use Rattle.branch.proofs.Branch.record.Goals as goal

pub loop-t-preserved : goal.loop-t-preserved
loop-t-preserved c =
    let b = held c.args.self.now in
    let v = c.loop-t in
    rw (c.put.ensures, c.record_length.ensures, v.invariant, c.root_at-i.ensures ∙ sym (root_is b v.t)) (record_more b (record_length most_terms) v.t)
