use native.Mathlib.Omega.{arith}
use Rattle.journal_text.proofs.Ranges.{refused_short}
use Rattle.journal_text.proofs.put_said.Goals as goal

pub returns-in-Refused-clause-short : goal.returns-in-Refused-clause-short
returns-in-Refused-clause-short c =
    let a = c.args in
    refused_short a.n a.effects a.sent.now a.aims.now c.in-Refused.is (omega (arith, c.ranges.n))
