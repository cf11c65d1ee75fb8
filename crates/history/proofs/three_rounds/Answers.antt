use Rattle.history.proofs.Example.{three_rounds, three_windows}
use Rattle.history.proofs.three_rounds.Goals as goal

pub returns : goal.returns
returns c = record { answers = three_rounds; windows = three_windows }
