use Rattle.std.proofs.Common.{rules}
use native.Mathlib.Omega.{arith}
use Rattle.rows.proofs.Arrays.{mapped}
use Rattle.live_dials.specs.First.{first_live, no_peer}
use Rattle.live_dials.proofs.first_lives.Goals as goal

pub returns : goal.returns
returns c = mapped (first_live c.args.live.now) no_peer _ c.args.asked c.map.result (λ x y q k. search rules) 64 (omega arith) c.map.ensures.items
