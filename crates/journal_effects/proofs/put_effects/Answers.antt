use Rattle.journal_effects.specs.Effects.{effects_text}
use Rattle.journal_prints.specs.Room.{is_none}
use Rattle.journal_prints.proofs.Room.{short}
use mathlib.Core.Path.{sym}
use native.Mathlib.Omega.{arith}
use Rattle.journal_effects.proofs.put_effects.Goals as goal

pub returns-then-is_empty-clause-short : goal.returns-then-is_empty-clause-short
unfolding effects_text
returns-then-is_empty-clause-short c = simp (sym c.is_empty.ensures, c.if-is_empty.true) (omega (arith, short (is_none c.args.n (omega (arith, c.ranges.n)))))
