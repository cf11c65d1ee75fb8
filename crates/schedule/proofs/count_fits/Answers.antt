use Rattle.schedule.proofs.Readings.{count_fits}
use Rattle.schedule.proofs.count_fits.Goals as goal

pub returns : goal.returns
returns c = count_fits
