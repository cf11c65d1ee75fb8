use mathlib.Core.Path.{◌≡◌}
use Prim.Native.Nat.{◌<◌, ◌*◌, ◌^◌}
use lib.ListN.{drop}
use Rattle.address.specs.Multiaddr.{big_endian}
use Rattle.address.proofs.big_endian.Given as goal

abbrev pub invariant-loop-b : goal.invariant-loop-b
invariant-loop-b l = (l.v < 2 ^ (8 * l.b-index)) × (big_endian 0 l.s ≡ big_endian l.v (drop l.b-index l.s))
