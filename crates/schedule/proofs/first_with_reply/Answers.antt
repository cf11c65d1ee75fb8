use Rattle.schedule.proofs.Readings.{first_with_reply}
use Rattle.schedule.proofs.first_with_reply.Goals as goal

pub returns : goal.returns
returns c = first_with_reply
