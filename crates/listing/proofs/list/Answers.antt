-- A turn writes line i; at the return all lines are written.
use Rattle.std.proofs.Common.{rules, arith, refl, ap, subst, List, ℕ, take_all}
use Rattle.std.specs.Io.KnownBytes.{Appends}
use Rattle.std.proofs.KnownBytes.{Appends-nil, Appends-trans}
use Rattle.calculus.specs.Lists.{gather}
use Rattle.listing_lines.specs.Listing.{listing}
use Rattle.listing_lines.proofs.Running.{ran}
use Rattle.listing.proofs.Pieces.{line_more}
use Rattle.listing.proofs.list.Goals as goal

pub loop-i-init : goal.loop-i-init
loop-i-init g c = (refl, ran _ _ _ _ c.fuselinda_run-word.ensures.0, Appends-nil _)

pub loop-i-preserved : goal.loop-i-preserved
loop-i-preserved g c =
    let v = c.loop-i in
    let e = c.line-k.ensures in
    let n = c.lines-i-end.ensures.1 c.args.problem.now _ v.invariant.1 in
    let more = line_more c.args.problem.now v.i c.line-k.result v.text c.line-k.new.text (omega (arith, n, c.loop-i-test.true)) e.0 e.1 in
    (search rules, v.invariant.1, subst (Appends _ _) more (Appends-trans _ _ _ _ _ v.invariant.2 c.in_ok-write_all.ensures.bytes))

pub returns : goal.returns
returns g c =
    let v = c.loop-i in
    let n = c.lines-i-end.ensures.1 c.args.problem.now _ v.invariant.1 in
    let all = take_all v.i (listing c.args.problem.now) (omega (arith, n, c.loop-i-test.false)) in
    subst (Appends _ _) (ap (gather (λ (b : List ℕ). b)) all) v.invariant.2
