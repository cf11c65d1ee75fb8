use native.Mathlib.Omega.{arith}
use Rattle.std.proofs.lemmas.Bool.Decides.{nat_tests}
use lib.ListN.{length-take, length-drop}
use Rattle.address.specs.Multiaddr.{is_name}
use Rattle.address.proofs.Digits.{cut_name}
use Rattle.address.proofs.is_name.Goals as goal

pub returns-then-n-le-LONGEST_NAME : goal.returns-then-n-le-LONGEST_NAME
unfolding is_name
returns-then-n-le-LONGEST_NAME c = grind (arith, nat_tests, length-take, length-drop)

pub returns-else-n-le-LONGEST_NAME : goal.returns-else-n-le-LONGEST_NAME
unfolding is_name
returns-else-n-le-LONGEST_NAME c = grind (arith, nat_tests)

pub returns-in_default : goal.returns-in_default
returns-in_default c = cut_name _ c.in_default.len_below

pub returns-in_default-2 : goal.returns-in_default-2
unfolding is_name
returns-in_default-2 c = grind (arith, nat_tests)

pub returns-in_default-3 : goal.returns-in_default-3
unfolding is_name
returns-in_default-3 c = grind (arith, nat_tests)
