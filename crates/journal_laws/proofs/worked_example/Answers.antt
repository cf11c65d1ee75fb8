use Rattle.journal_laws.proofs.Example.{nothing, example}
use Rattle.journal_laws.proofs.worked_example.Goals as goal

pub returns : goal.returns
returns c = record { nothing = nothing; example = example }
