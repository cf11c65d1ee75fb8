use Rattle.history.proofs.Example.{example_said, example_lots}
use Rattle.history.proofs.told_example.Goals as goal

pub returns : goal.returns
returns c = record { effects = example_said; ledger = example_lots }
