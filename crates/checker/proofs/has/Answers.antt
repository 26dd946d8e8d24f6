use Rattle.std.proofs.Common.{arith, rules, ◌∙◌}
use Rattle.std.proofs.lemmas.Iterator.{YieldsList-from_slice}
use Rattle.std.proofs.lemmas.Iterator.Search.{position_from_yields_List}
use Rattle.calculus.specs.Reading.{signed, eq_z}
use Rattle.checker.proofs.Pairs.{number_of, any_in_pairs, place_found, same_value}
use Rattle.checker.proofs.has.Goals as goal

pub returns : goal.returns
returns c =
    let x = c.args.x in
    c.is_some.ensures
    ∙ place_found (λ m. eq_z (signed x) (number_of m)) _ c.position.result
    (position_from_yields_List _ _ _ c.position.result c.position.ensures.ran (YieldsList-from_slice c.as_chunks.result.0.now cc) (λ m b q k. (search rules, grind (arith, same_value, c.ranges.x.fits, k))))
    ∙ rw c.as_chunks.ensures.front (any_in_pairs (eq_z (signed x)) _ c.args.members.now (omega arith))
