use mathlib.Core.Path.{refl}
use native.Mathlib.Omega.{arith}
use Rattle.lines.specs.Lines.{longest}
use Rattle.journal_text.proofs.Inputs.{zeros_long}
use Rattle.journal.proofs.main.Goals as goal

pub replay-e-requires : goal.replay-e-requires
replay-e-requires c = (zeros_long longest (omega arith), omega (arith, zeros_long 65536 (omega arith)), refl, c.blank-memory.ensures.bytes, c.blank-memory.ensures.tables)
