-- The members among the first terms are written, in at most 7 bytes each.
use Rattle.std.proofs.Common.{◌+◌, ◌*◌, ◌≤◌}
use Rattle.text.specs.Text.{Says}
use Rattle.listing_lines.specs.Writing.{problem_in}
use Rattle.listing_lines.proofs.Members.{members_text}
use Rattle.listing_lines.proofs.form.Form.say_members.Given as goal

abbrev pub invariant-loop-t : goal.invariant-loop-t
invariant-loop-t l =
    (l.text.end ≤ l.start + 7 * l.t)
    × Says l.initial.text (members_text (problem_in l.self.problem.bytes.now) l.self.record.now l.set.0 l.t) l.text
