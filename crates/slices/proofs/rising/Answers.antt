-- Numbers rise within bounds where they ascend and each is in them.
use Rattle.std.proofs.Common.{sym, ◌∙◌, rules}
use Rattle.std.proofs.lemmas.Iterator.{YieldsList-from_slice}
use Rattle.std.proofs.lemmas.Iterator.Search.{all_from_yields_List}
use Rattle.slices.specs.Bytes.{word_at, in_bounds}
use Rattle.slices.proofs.Ascending.{all_words}
use Rattle.slices.proofs.rising.Goals as goal

pub returns-then-ascends : goal.returns-then-ascends
returns-then-ascends c =
    let found = all_from_yields_List (λ x. in_bounds c.args.lo c.args.hi (word_at x 0)) _ _ _ c.all.ensures.ran (YieldsList-from_slice c.as_chunks.result.0.now cc) (λ x b q k. search rules) in
    rw (sym c.ascends.ensures, c.if-ascends.true) (rw c.as_chunks.ensures.front at found ∙ all_words _ c.args.part.now)
