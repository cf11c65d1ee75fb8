use mathlib.Core.Path.{sym, ◌∙◌}
use native.Mathlib.Omega.{arith}
use borrow.Author.Tests.{ne_eqb}
use Rattle.address.proofs.LeadingBits.{lead_upper, lead_lower, lead_apart}
use Rattle.address.proofs.same_leading_bits_128.Goals as goal

pub returns-then-len-le64 : goal.returns-then-len-le64
returns-then-len-le64 c = let a = c.args in c.same_leading_bits_64.ensures ∙ sym (lead_upper 64 a.len a.ah a.al a.ph a.pl (omega arith) (omega arith) c.if-len-le64.true)

pub returns-then-ah-ph : goal.returns-then-ah-ph
returns-then-ah-ph c = let a = c.args in c.same_leading_bits_64-then-ah-ph.ensures ∙ sym (lead_lower 64 a.len a.ah a.al a.ph a.pl (omega arith) c.if-ah-ph.true)

pub returns-else-ah-ph : goal.returns-else-ah-ph
returns-else-ah-ph c = let a = c.args in ne_eqb _ _ c.if-ah-ph.false ∙ sym (lead_apart 64 a.len a.ah a.al a.ph a.pl (omega arith) (omega arith) (omega arith) c.if-ah-ph.false)
