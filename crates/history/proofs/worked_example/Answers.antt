use Rattle.history.proofs.Example.{example}
use Rattle.history.proofs.worked_example.Goals as goal

pub returns : goal.returns
returns c = example
