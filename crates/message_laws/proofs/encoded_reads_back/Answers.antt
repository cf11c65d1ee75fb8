-- `message_laws::encoded_reads_back` meets its contract: it is the law `reads_back`.
use Rattle.message_laws.proofs.ReadBack.{reads_back}
use Rattle.message_laws.proofs.encoded_reads_back.Goals as goal

pub returns : goal.returns
returns c = reads_back
