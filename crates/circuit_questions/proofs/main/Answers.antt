use native.Mathlib.Omega.{arith}
use Rattle.lines.specs.Lines.{longest}
use Rattle.journal_text.proofs.Inputs.{zeros_long}
use Rattle.circuit_questions.proofs.main.Goals as goal

pub replay-requires : goal.replay-requires
replay-requires c = (zeros_long longest (omega arith), c.blank-memory.ensures.bytes, c.blank-memory.ensures.tables)
