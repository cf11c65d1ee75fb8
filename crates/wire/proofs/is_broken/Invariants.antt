-- The invariant: the list is broken just where what is left of it is.
use Rattle.std.proofs.Common.{◌≡◌, length}
use Rattle.wire.specs.Lists.{broken}
use Rattle.wire.proofs.is_broken.Given as goal

abbrev pub invariant-loop-behind : goal.invariant-loop-behind
invariant-loop-behind l = broken l.list ≡ broken l.rest

abbrev pub decreases-loop-behind : goal.decreases-loop-behind
decreases-loop-behind l = length l.rest
