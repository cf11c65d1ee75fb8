use Rattle.circuit.specs.Decisions.{event_of}
use Rattle.circuit.specs.Decisions.{silence}
use Rattle.circuit.specs.Decisions.{decided_of}
use Rattle.circuit.specs.Decisions.{quiet_of}
use Rattle.circuit.specs.Calls.{wrote_of}
use mathlib.Core.Path.{refl}
use Rattle.inbound.proofs.Answering.{made_plainly}
use Rattle.inbound.specs.Circuits.{wrote_answer}
use Rattle.inbound.proofs.InboundCircuit.on_write_completed.Goals as goal

pub returns : goal.returns
unfolding wrote_answer wrote_of quiet_of decided_of silence event_of
returns c = made_plainly c.made.ensures c.on_write_completed.ensures refl refl refl c.blank-sent.ensures
