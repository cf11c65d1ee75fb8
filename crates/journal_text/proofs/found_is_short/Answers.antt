use native.Mathlib.Omega.{arith}
use Rattle.journal_text.proofs.Ranges.{named_short, unnamed_short}
use Rattle.journal_text.proofs.found_is_short.Goals as goal

pub returns-in-Some : goal.returns-in-Some
returns-in-Some c = named_short c.args.n c.in-Some.is (omega (arith, c.ranges.n)) c.owner_in_range.ensures

pub returns-in-None : goal.returns-in-None
returns-in-None c = unnamed_short c.args.n c.in-None.is (omega (arith, c.ranges.n))
