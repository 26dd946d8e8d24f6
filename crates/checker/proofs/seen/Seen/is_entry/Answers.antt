use Rattle.std.proofs.Common.{arith, rules, sym, ◌∙◌}
use Rattle.std.proofs.lemmas.Iterator.{YieldsList-from_slice}
use Rattle.std.proofs.lemmas.Iterator.Search.{any_from_yields_List}
use Rattle.calculus.specs.Reading.{signed, eq_z}
use Rattle.calculus.proofs.Bools.{any_map}
use Rattle.checker.specs.Tested.{value_at}
use Rattle.checker.proofs.Pairs.{same_value}
use Rattle.checker.proofs.seen.Seen.is_entry.Goals as goal

pub returns : goal.returns
returns c =
    let s = c.args in
    any_from_yields_List (λ e. eq_z (signed s.x) (value_at s.self.now e)) _ _ _ c.any.ensures.ran (YieldsList-from_slice s.list.now cc) (λ x b q k. (search rules, grind (arith, same_value, c.ranges.x.fits, k)))
    ∙ sym (any_map (eq_z (signed s.x)) (value_at s.self.now) s.list.now)
