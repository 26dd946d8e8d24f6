-- A note conflicts where its masks meet, a merge where the roots are apart.
use Rattle.step.proofs.Performing.{note_tells, merge_tells}
use Rattle.step.proofs.conflicts.Goals as goal

pub returns-in-Note : goal.returns-in-Note
returns-in-Note c = note_tells c.in-Note.is

pub returns-in-Merge : goal.returns-in-Merge
returns-in-Merge c = merge_tells c.in-Merge.is _ c.apart.ensures _ c.has_bit.ensures
