-- What was found is false, and all before it are true; or all are.
use Rattle.std.proofs.Common.{arith, true, false}
use Rattle.std.proofs.lemmas.Iterator.{first_from_Range}
use Rattle.checker.proofs.Lowest.{Tests, first_false}
use Rattle.checker.proofs.seen.Seen.lowest.Goals as goal

pub returns : goal.returns
returns c =
    let s = c.args.self.now in
    first_false s _ (first_from_Range _ _ _ _ (Tests s false) (Tests s true) c.find.ensures.ran (λ x q k. grind arith) (λ x q k. grind arith))
