use Rattle.schedule.proofs.Readings.{once}
use Rattle.schedule.proofs.no_instant_twice.Goals as goal

pub returns : goal.returns
returns c = once
