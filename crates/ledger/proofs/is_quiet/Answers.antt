use Prim.Native.Nat.{ℕ}
use mathlib.Core.Path.{ap}
use Rattle.ledger.specs.Ledger.{is_quiet}
use lib.Dec.{eqb}
use Rattle.ledger.proofs.is_quiet.Goals as goal

pub returns : goal.returns
unfolding is_quiet
returns c = ap (λ (n : ℕ). eqb n 0) c.used.ensures.0
