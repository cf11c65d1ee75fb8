use mathlib.Core.Path.{◌∙◌}
use native.Mathlib.Omega.{arith}
use Rattle.std.proofs.lemmas.Bool.Decides.{nat_tests}
use Rattle.address.proofs.Digits.{nothing_behind, something_behind}
use Rattle.address.proofs.ends_well.Goals as goal

pub returns-then-is_empty : goal.returns-then-is_empty
returns-then-is_empty c = c.if-is_empty.true ∙ nothing_behind c.args.s.now (grind (arith, nat_tests))

pub returns-else-is_empty : goal.returns-else-is_empty
returns-else-is_empty c = something_behind c.args.s.now (grind (arith, nat_tests)) c.is_name.ensures
