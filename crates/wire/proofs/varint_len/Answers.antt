use mathlib.Core.Path.{◌≡◌}
use native.Mathlib.Omega.{arith}
use Rattle.std.specs.Prelude.{max}
use Rattle.wire.proofs.Groups.{shortest}
use Rattle.wire.proofs.varint_len.Goals as goal

pub returns : goal.returns
returns c =
    let e : c.max.result ≡ max c.args.value 1 = omega arith in
    shortest c.args.value c.ilog2.result c.max.result e c.ilog2.ensures.power_le c.ilog2.ensures.next_power_gt c.ilog2.ensures.bound
