-- The branch and the conflict are those of the arm's call.
use Rattle.std.proofs.Common.{◌≡◌, ap, ◌∙◌, sym}
use Rattle.branch.specs.declared.Asserted.{Asserted}
use Rattle.step.specs.Acts.{performed}
use Rattle.step.proofs.perform.Goals.{in-Note, in-Merge}
use Rattle.step.proofs.perform.Goals as goal

pub returns : goal.returns
returns c =
    let p : c.match-a.then ≡ performed c.args.b.now c.args.a =
    elim c.match-a.branch [
      | in-Note w ↦ w.then-is ∙ w.note-then.ensures ∙ ap (performed c.args.b.now) (sym w.in-Note.is)
      | in-Merge w ↦ w.then-is ∙ w.merge-then.ensures ∙ ap (performed c.args.b.now) (sym w.in-Merge.is)
    ] in
    (ap (λ (t : Asserted). t.branch) p, ap (λ (t : Asserted). t.conflict) p)
