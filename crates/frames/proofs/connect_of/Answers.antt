-- `frames::connect_of` meets its contract: each answer by the tests on the way and by what the callees ensure.
use Rattle.frames.specs.Sent.{chosen_connect}
use mathlib.Core.Path.{sym}
use Rattle.frames.proofs.connect_of.Goals as goal

pub returns : goal.returns
unfolding chosen_connect
returns c = simp (sym c.connect_frame.ensures)
