-- The first items are written, in at most 453 bytes each.
use Rattle.std.proofs.Common.{◌*◌, ◌≤◌}
use Rattle.text.specs.Text.{Says}
use Rattle.listing_lines.specs.Writing.{problem_in}
use Rattle.listing_lines.proofs.Items.{items_text}
use Rattle.listing_lines.proofs.form.Form.say_line.Given as goal

abbrev pub invariant-loop-k : goal.invariant-loop-k
invariant-loop-k l =
    (l.text.end ≤ 453 * l.k)
    × Says l.initial.text (items_text (problem_in l.self.problem.bytes.now) l.self.record.now l.k) l.text
