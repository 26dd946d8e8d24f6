-- Each entry is a term below the limit. The first root that the chain finds is the one that `missed` names.
use mathlib.Core.Bool.{not}
use Rattle.std.proofs.Common.{◌<◌, rules, ℕ, sym}
use Rattle.std.proofs.iter.Serving.{serving}
use Rattle.std.proofs.lemmas.Iterator.{YieldsList-from_slice, YieldsList-from_map}
use Rattle.std.proofs.lemmas.Iterator.Search.{find_from_yields_List}
use Rattle.calculus.specs.Limits.{most_terms}
use Rattle.calculus.specs.Lists.{bit}
use Rattle.calculus.proofs.Sequences.{each_at}
use Rattle.branch.specs.Held.{root_of}
use Rattle.fits.proofs.Listed.{missed_found}
use Rattle.fits.proofs.first_missing.Goals as goal

pub find-requires-clause-can : goal.find-requires-clause-can
find-requires-clause-can c = (tt, let w = λ (k d : ℕ). each_at (λ e. e < most_terms) c.args.list.now d c.requires.0 k in grind serving)

pub returns : goal.returns
returns c =
    let a = c.args in
    let y = find_from_yields_List (λ (h : ℕ). not (bit a.row h)) _ _ _ c.find.ensures.ran (YieldsList-from_map _ (root_of a.b.now.parents) (YieldsList-from_slice a.list.now (cc)) c.map.ensures.closure (λ x r q k. search rules)) (λ x b q k. search rules) in
    rw (missed_found a.b.now.parents a.row a.list.now, sym y) (search rules)
