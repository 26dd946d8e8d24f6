-- Each entry is a term below the limit, and the fold finds their bits.
use Rattle.std.proofs.Common.{◌<◌, rules, ℕ}
use Rattle.std.proofs.iter.Serving.{serving}
use Rattle.calculus.specs.Limits.{most_terms}
use Rattle.calculus.proofs.Sequences.{each_at}
use Rattle.fits.proofs.Listed.{image_bits}
use Rattle.fits.proofs.entry_bits.Goals as goal

pub fold-requires-clause-callable : goal.fold-requires-clause-callable
fold-requires-clause-callable c = let w = λ (k d : ℕ). each_at (λ e. e < most_terms) c.args.list.now d c.requires k in grind serving

pub returns : goal.returns
returns c = record { below = c.requires; bits = image_bits (λ e. e) _ _ (search rules); small = c.fold.type_inv }
