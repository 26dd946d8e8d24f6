-- A term that is not inside adds nothing; else its number stands right after what `lead` wrote.
use Rattle.std.proofs.Common.{sym, ◌∙◌, arith}
use Rattle.text.proofs.Texts.{says_nothing, says_more}
use Rattle.listing_lines.proofs.Members.{no_member, a_member}
use Rattle.listing_lines.proofs.form.Form.say_member.Goals as goal

pub returns-then-is_inside-clause-says : goal.returns-then-is_inside-clause-says
returns-then-is_inside-clause-says c = rw (a_member _ _ _ _ _ _ (sym c.is_inside.ensures ∙ c.if-is_inside.true), sym c.value.ensures) (says_more (omega arith) c.lead.ensures.says c.number.ensures.says)

pub returns-else-is_inside-clause-says : goal.returns-else-is_inside-clause-says
returns-else-is_inside-clause-says c = rw (no_member _ _ _ _ _ _ (sym c.is_inside.ensures ∙ c.if-is_inside.false)) (says_nothing _)
