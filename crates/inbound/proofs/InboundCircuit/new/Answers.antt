use Rattle.candidates.specs.Selection.{Chosen}
use mathlib.Core.Path.{ap}
use Rattle.inbound.proofs.Answering.{made_plainly, started_silent}
use Rattle.inbound.specs.Circuits.{answer_of}
use Rattle.inbound.specs.Circuits.{new_answer}
use Rattle.inbound.proofs.InboundCircuit.new.Goals as goal

pub returns : goal.returns
unfolding new_answer answer_of
returns c = made_plainly c.made.ensures c.new-d.ensures c.blank-connect.ensures (ap (λ (z : Chosen). z.bytes) c.empty-none.ensures) (started_silent _ _ _ _ _) c.blank-sent.ensures
