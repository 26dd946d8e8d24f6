-- No count byte is there, or the bytes that follow it are split.
use Rattle.std.proofs.Common.{rules}
use Rattle.calculus.specs.Reading.{◌>>=◌, byte}
use Rattle.problem.specs.Sections.{counted}
use Rattle.problem.proofs.SectionLaws.{parts_counted}
use Rattle.problem.proofs.sections.section_at.Goals as goal

pub returns-in_default : goal.returns-in_default
unfolding counted ◌>>=◌ byte
returns-in_default c = search rules

pub returns : goal.returns
returns c =
    rw (c.in-Some.ensures.cases.0, c.ok_or.ensures.value) (parts_counted c.args.size c.in-Some.n.now c.in-Some.rest.now _ c.split_at_checked.ensures.cases)
