-- `message_laws::room_is_enough` meets its contract: it is the law `room_enough`.
use Rattle.message.proofs.Answers.{room_enough}
use Rattle.message_laws.proofs.room_is_enough.Goals as goal

pub returns : goal.returns
returns c = room_enough
