-- The verdict is that of the word's first byte.
use Rattle.std.proofs.Common.{rules, refl, ◌%◌, arith}
use Rattle.capi.specs.declared.verdict.Verdict.TheVariants.{Forms, False, Spent, NoRoom}
use Rattle.listing_lines.proofs.Headings.{refused_in, ended_in, other_verdict}
use Rattle.listing_lines.proofs.answer.AnswerFromU64.from.Goals as goal

pub returns-in-0 : goal.returns-in-0
returns-in-0 c = (refused_in c.args.word c.in-0.is, omega arith)

pub returns-in-1 : goal.returns-in-1
returns-in-1 c = ended_in _ Forms c.ranges.word.fits (omega arith) (rw c.in-1.is refl)

pub returns-in-2 : goal.returns-in-2
returns-in-2 c = ended_in _ False c.ranges.word.fits (omega arith) (rw c.in-2.is refl)

pub returns-in-3 : goal.returns-in-3
returns-in-3 c = ended_in _ Spent c.ranges.word.fits (omega arith) (rw c.in-3.is refl)

pub returns-in_default : goal.returns-in_default
returns-in_default c = ended_in _ NoRoom c.ranges.word.fits (search rules) (other_verdict (c.args.word % 256) (search rules) (search rules) (search rules))
