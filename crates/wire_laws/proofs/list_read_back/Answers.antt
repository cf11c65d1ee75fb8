-- `wire::list_read_back` meets its contract: it is the laws `read_back`, `unbroken` and `written_back`.
use Rattle.wire.proofs.Listed.{all_of, read_back, unbroken, written_back}
use Rattle.wire_laws.proofs.list_read_back.Goals as goal

pub returns : goal.returns
returns c = record { written = λ xs h. (read_back xs (all_of xs h), unbroken xs (all_of xs h)); read = written_back }
