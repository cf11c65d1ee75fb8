use native.Mathlib.Omega.{arith}
use Rattle.std.proofs.lemmas.Bool.Decides.{nat_tests}
use Rattle.wire.specs.Frame.{frame_from}
use Rattle.wire.proofs.frame_from.Goals as goal

pub returns-then-len-gt-MAX_MESSAGE_SIZE : goal.returns-then-len-gt-MAX_MESSAGE_SIZE
unfolding frame_from
returns-then-len-gt-MAX_MESSAGE_SIZE c = grind (arith, nat_tests)

pub returns-in-0-default-default : goal.returns-in-0-default-default
unfolding frame_from
returns-in-0-default-default c = grind (arith, nat_tests)

pub returns-in-1-default-default : goal.returns-in-1-default-default
unfolding frame_from
returns-in-1-default-default c = grind (arith, nat_tests)

pub returns-else-len-gt-MAX_MESSAGE_SIZE : goal.returns-else-len-gt-MAX_MESSAGE_SIZE
unfolding frame_from
returns-else-len-gt-MAX_MESSAGE_SIZE c = grind (arith, nat_tests)

pub returns-in_default : goal.returns-in_default
unfolding frame_from
returns-in_default c = grind (arith, nat_tests)

pub returns-in_default-2 : goal.returns-in_default-2
unfolding frame_from
returns-in_default-2 c = grind (arith, nat_tests)

pub returns-in_default-0-to-127-default : goal.returns-in_default-0-to-127-default
unfolding frame_from
returns-in_default-0-to-127-default c = grind (arith, nat_tests)
