use mathlib.Core.List.{List}
use Prim.Native.Nat.{ℕ}
use Rattle.ids.specs.declared.PeerId.{PeerId}
use Rattle.ids.specs.declared.ConnectionId.{ConnectionId}
use Rattle.vocabulary.specs.declared.Settings.{Settings}
use Rattle.history.specs.Calls.{Call}
use Rattle.history.specs.Demand3.{Demand3}
use Rattle.history.proofs.Run.{same}
use Rattle.history.proofs.Bound.{bound}
use Rattle.history.proofs.demand_3.Goals as goal

theorem : (source relay : PeerId) (circuit : ConnectionId) (s : Settings) (at : ℕ) (calls : List Call) → Demand3 source relay circuit s at calls
theorem source relay circuit s at calls =
    record {
      same = same source relay circuit s at calls;
      bound = rw (same source relay circuit s at calls) (bound source relay circuit s at calls);
    }

pub returns : goal.returns
returns c = theorem
