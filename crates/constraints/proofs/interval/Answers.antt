-- Not empty, it ends below most_terms, so the numbers have it.
use Rattle.constraints.proofs.Decoding.{numbers_of}
use Rattle.constraints.proofs.interval.Goals as goal

pub returns : goal.returns
returns c = numbers_of _ _ c.if-last-first.false (c.requires c.if-last-first.false)
