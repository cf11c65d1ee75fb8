use Rattle.inbound.specs.Circuits.{answer_of}
use mathlib.Core.Path.{sym}
use Rattle.inbound.proofs.made.Goals as goal

pub returns : goal.returns
unfolding answer_of
returns c = simp (sym c.message_size.ensures)
