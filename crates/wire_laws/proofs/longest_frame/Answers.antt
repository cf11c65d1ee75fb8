use Rattle.wire.proofs.Frames.{length_4096, length_4097}
use Rattle.wire_laws.proofs.longest_frame.Goals as goal

pub returns : goal.returns
returns c = record { whole = length_4096; broken = length_4097 }
