-- Each entry is a term below the limit, and the fold finds the bits of their roots.
use Rattle.std.proofs.Common.{◌<◌, rules, ℕ}
use Rattle.std.proofs.iter.Serving.{serving}
use Rattle.calculus.specs.Limits.{most_terms}
use Rattle.calculus.proofs.Sequences.{each_at}
use Rattle.fits.proofs.Listed.{image_bits}
use Rattle.fits.proofs.entry_roots.Goals as goal

pub fold-requires-clause-callable : goal.fold-requires-clause-callable
fold-requires-clause-callable c = let w = λ (k d : ℕ). each_at (λ e. e < most_terms) c.args.list.now d c.requires.0 k in grind serving

pub returns : goal.returns
returns c = (c.fold.type_inv, image_bits _ _ _ (search rules))
