use Rattle.wire.proofs.Frames.{second_zero}
use Rattle.wire_laws.proofs.second_byte_zero_is_broken.Goals as goal

pub returns : goal.returns
returns c = second_zero
