use Rattle.history.proofs.Extras.{three_effects}
use Rattle.history.proofs.three_effects.Goals as goal

pub returns : goal.returns
returns c = three_effects
