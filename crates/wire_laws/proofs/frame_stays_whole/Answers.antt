-- `wire::frame_stays_whole` meets its contract: it is the law `stays_whole`.
use Rattle.wire.proofs.Frames.{stays_whole}
use Rattle.wire_laws.proofs.frame_stays_whole.Goals as goal

pub returns : goal.returns
returns c = stays_whole
