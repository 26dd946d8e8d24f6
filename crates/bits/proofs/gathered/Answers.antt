-- The word at the bit that is taken is found, and the others are left.
use Rattle.std.proofs.Common.{length}
use Rattle.bits.proofs.Bits.{bit_low}
use Rattle.bits.proofs.Gathering.{gather_start, gather_next, gather_end}
use Rattle.bits.proofs.gathered.Goals as goal

pub bounds-words-k : goal.bounds-words-k
bounds-words-k c = bit_low (length c.args.words.now) c.args.which _ c.requires (c.loop-k.invariant.among c.in-Some.k c.in-Some.ensures.steps.set)

pub loop-k-init : goal.loop-k-init
loop-k-init c = rw c.into_iter-k-iterator.ensures.into_iter_gives (gather_start _ _)

pub loop-k-preserved : goal.loop-k-preserved
loop-k-preserved c = gather_next c.loop-k.invariant c.in-Some.ensures.steps

pub returns : goal.returns
returns c = gather_end c.loop-k.invariant c.in-None.ensures.steps.0
