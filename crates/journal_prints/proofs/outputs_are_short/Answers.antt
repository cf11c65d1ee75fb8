use Rattle.journal_prints.proofs.Room.{short}
use Rattle.journal_prints.proofs.outputs_are_short.Goals as goal

pub returns : goal.returns
returns c = λ t o. short o
