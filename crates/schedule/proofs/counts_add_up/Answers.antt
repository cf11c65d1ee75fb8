use Rattle.schedule.proofs.Readings.{counts_add_up}
use Rattle.schedule.proofs.counts_add_up.Goals as goal

pub returns : goal.returns
returns c = counts_add_up
