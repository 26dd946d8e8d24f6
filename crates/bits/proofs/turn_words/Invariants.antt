-- What is left to do on the words now is what was to do at first.
use Rattle.std.proofs.Common.{◌≡◌, ◌<◌, ◌^◌, length}
use Rattle.bits.specs.Words.{turn_words}
use Rattle.bits.proofs.turn_words.Given as goal

abbrev pub invariant-loop-k : goal.invariant-loop-k
invariant-loop-k l = record {
  small : l.k-iterator.0 < 2 ^ length l.initial.words;
  left : turn_words l.on l.off l.k-iterator.0 l.words ≡ turn_words l.on l.off l.which l.initial.words;
}
