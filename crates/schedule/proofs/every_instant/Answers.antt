use Rattle.schedule.proofs.Instants.{instant_in, instant_at}
use Rattle.schedule.proofs.every_instant.Goals as goal

pub returns : goal.returns
returns c = record { listed = instant_in; no_other = instant_at }
