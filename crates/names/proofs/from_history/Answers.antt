use Rattle.names.proofs.Sentences.{from_history}
use Rattle.names.proofs.from_history.Goals as goal

pub returns : goal.returns
returns c = from_history
