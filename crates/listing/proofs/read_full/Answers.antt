-- What one call read comes right after the bytes so far.
use Rattle.std.proofs.Common.{rules, ◌-◌, length, sym, subst}
use Rattle.std.specs.Io.KnownBytes.{Consumes}
use Rattle.std.proofs.KnownBytes.{Consumes-trans}
use Rattle.listing.proofs.Pieces.{filled}
use Rattle.listing.proofs.read_full.Goals as goal

pub loop-done-preserved : goal.loop-done-preserved
loop-done-preserved g c =
    let v = c.loop-done in
    let e = filled v.done (length v.buf - v.done) c.in-Ok.n v.buf c.read.new.buf v.invariant.1 c.in-Ok.ensures.bound.0 in
    (search rules, search rules, subst (Consumes _ _) (sym e) (Consumes-trans _ _ _ _ _ v.invariant.2 c.in-Ok.ensures.bytes.0))
