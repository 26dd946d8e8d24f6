-- A shift and a remainder are the bit.
use Rattle.bits.proofs.Bits.{bit_shr}
use Rattle.bits.proofs.has_bit.Goals as goal

pub returns : goal.returns
returns c = bit_shr c.args.word c.args.h
