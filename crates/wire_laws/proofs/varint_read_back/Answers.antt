-- `wire::varint_read_back` meets its contract: it is the law `read_written`.
use Rattle.wire.proofs.VarintAgain.{read_written}
use Rattle.wire_laws.proofs.varint_read_back.Goals as goal

pub returns : goal.returns
returns c = read_written
