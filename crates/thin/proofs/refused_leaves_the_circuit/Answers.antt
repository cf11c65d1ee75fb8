use Rattle.thin.proofs.Mixed.{unchanged}
use Rattle.thin.proofs.refused_leaves_the_circuit.Goals as goal

pub returns : goal.returns
returns c = unchanged
