use mathlib.Core.Path.{sym}
use native.Mathlib.Omega.{arith}
use Rattle.address.specs.LeadingBits.{same_leading_bits}
use Rattle.address.proofs.LeadingBits.{lead_none, lead_all, lead_mask}
use Rattle.address.proofs.same_leading_bits_64.Goals as goal

pub returns-then-len-eq0 : goal.returns-then-len-eq0
returns-then-len-eq0 c = sym (lead_none 64 _ _ _ c.if-len-eq0.true (omega arith) (omega arith))

pub returns-then-len-ge64 : goal.returns-then-len-ge64
returns-then-len-ge64 c = sym (lead_all 64 _ _ _ c.if-len-ge64.true)

pub returns : goal.returns
unfolding same_leading_bits
returns c = let a = c.args in lead_mask 64 a.len a.a a.p (omega arith) (omega arith) (omega arith)
