-- `wire::framed_message_is_whole` meets its contract: it is the law `framed_whole`.
use Rattle.wire.proofs.Frames.{framed_whole}
use Rattle.wire_laws.proofs.framed_message_is_whole.Goals as goal

pub returns : goal.returns
returns c = framed_whole
