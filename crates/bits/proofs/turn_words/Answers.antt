-- A turn does the word of the lowest bit, and takes that bit away; with no bit left nothing is left to do.
use Rattle.std.proofs.Common.{arith, sym, ap, ◌∙◌, slice_set, length}
use Rattle.bits.proofs.Bits.{bit_low}
use Rattle.bits.proofs.Taking.{takes_less}
use Rattle.bits.specs.Words.{turn_words}
use Rattle.bits.proofs.Turning.{turn_none, turn_next}
use Rattle.bits.proofs.turn_words.Goals as goal

pub bounds-words-k : goal.bounds-words-k
bounds-words-k c = rw c.loop-k.auto.words (bit_low (length c.args.words.now) _ _ c.loop-k.invariant.small c.in-Some.ensures.steps.set)

pub loop-k-preserved : goal.loop-k-preserved
loop-k-preserved c =
    let a = c.args in
    let v = c.loop-k in
    let steps = c.in-Some.ensures.steps in
    let below = bit_low (length a.words.now) v.k-iterator.0 c.in-Some.k v.invariant.small steps.set in
    record {
      small = omega (arith, takes_less steps);
      left = ap (λ x. turn_words a.on a.off c.next.new.self.0 (slice_set v.words c.in-Some.k x)) c.turned.ensures ∙ turn_next a.on a.off steps v.words (omega arith) ∙ v.invariant.left;
    }

pub returns : goal.returns
returns c = sym (turn_none c.args.on c.args.off _ _ c.in-None.ensures.steps.0) ∙ c.loop-k.invariant.left
