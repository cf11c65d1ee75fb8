use Rattle.circuit.specs.Decisions.{event_of}
use Rattle.circuit.specs.Decisions.{silence}
use Rattle.circuit.specs.Decisions.{decided_of}
use Rattle.circuit.specs.Decisions.{quiet_of}
use Rattle.circuit.specs.Calls.{down_of}
use mathlib.Core.Path.{refl}
use Rattle.inbound.proofs.Answering.{made_plainly}
use Rattle.inbound.specs.Circuits.{answer_of}
use Rattle.inbound.specs.Circuits.{down_answer}
use Rattle.inbound.proofs.InboundCircuit.on_connection_closed.Goals as goal

pub returns : goal.returns
unfolding down_answer answer_of down_of quiet_of decided_of silence event_of
returns c = made_plainly c.made.ensures c.on_connection_closed.ensures refl refl refl c.blank-sent.ensures
