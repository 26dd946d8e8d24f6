-- A turn has the words right for one constraint more; at the return all constraints are before i.
use Rattle.std.proofs.Common.{arith}
use Rattle.problem.proofs.Access.{opened_sizes}
use Rattle.fits.proofs.FitLaws.{entries_below}
use Rattle.marks.proofs.Marking.{fill_start, fill_next, fill_end}
use Rattle.marks.proofs.prepare.Goals as goal

pub loop-i-init : goal.loop-i-init
loop-i-init c = fill_start _

pub entry_bits-requires : goal.entry_bits-requires
entry_bits-requires c = rw c.entries.ensures (entries_below _ c.decode-l.ensures.handled)

pub bounds-entries-n : goal.bounds-entries-n
bounds-entries-n c = omega (arith, (opened_sizes _ _ c.args.problem.now.opened).0)

pub bit_at-requires : goal.bit_at-requires
bit_at-requires c = omega (arith, (opened_sizes _ _ c.args.problem.now.opened).0)

pub turn_words-requires : goal.turn_words-requires
turn_words-requires c = rw c.entry_bits.array_long c.needed.ensures.small

pub loop-i-preserved : goal.loop-i-preserved
loop-i-preserved c = fill_next c.loop-i.invariant _ c.args.problem.now.opened c.loop-i-test.true c.decode-l.ensures (rw c.entries.ensures at c.entry_bits.ensures) c.needed.ensures (rw c.entry_bits.array_long c.needed.ensures.small) c.bit_at.ensures c.turn_words.ensures

pub invariant_of-result : goal.invariant_of-result
invariant_of-result c = record { words_are = fill_end c.loop-i.invariant _ c.args.problem.now.opened c.loop-i-test.false }
