use Rattle.thin.proofs.Mixed.{demand_mixed}
use Rattle.thin.proofs.demand_3_with_thin_calls.Goals as goal

pub returns : goal.returns
returns c = demand_mixed
