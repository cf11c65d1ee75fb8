-- A list with thin calls leaves what the calls that they make leave.
-- Assumes nothing.
use mathlib.Core.Path.{◌≡◌, refl}
use mathlib.Core.Bool.{true}
use mathlib.Core.List.{List, [], ◌∷◌}
use Prim.Native.Nat.{ℕ}
use Rattle.ids.specs.declared.PeerId.{PeerId}
use Rattle.ids.specs.declared.ConnectionId.{ConnectionId}
use Rattle.inbound.specs.declared.InboundCircuit.{InboundCircuit}
use Rattle.vocabulary.specs.declared.Settings.{Settings}
use Rattle.history.specs.Demand3.{begun}
use Rattle.history.specs.Calls.{step_of, datagrams, refusals}
use Rattle.history.specs.Questions.{after_all}
use Rattle.history.proofs.Refusals.{refused_changes_nothing}
use Rattle.thin.specs.Mixed.{Mixed, by_value, thin_tick, thin_wrote, made, made_all, leaves, sent, refused, left, AsMade, Unchanged, Demand3Mixed}
use Rattle.history.proofs.Run as run
use Rattle.history.proofs.Bound as count

one : (c : InboundCircuit) (m : Mixed) → leaves c m ≡ step_of c (made m)
unfolding leaves step_of
one c (by_value k) = refl
one c (thin_tick l h own) = refl
one c (thin_wrote at conn stream) = refl

pub as_made : (calls : List Mixed) (c : InboundCircuit) → AsMade c calls
unfolding sent datagrams refused refusals left after_all made_all
as_made [] c = record { same_sent = refl; same_refused = refl; same_left = refl }
as_made (m ∷ ms) c =
    let r = as_made ms (step_of c (made m)).circuit in
    record {
      same_sent = rw (one c m, r.same_sent);
      same_refused = rw (one c m, r.same_refused);
      same_left = rw (one c m, r.same_left);
    }

pub unchanged : (c : InboundCircuit) (m : Mixed) → (leaves c m).refused ≡ true → Unchanged c m
unchanged c m h =
    let u = refused_changes_nothing c (made m) (rw (one c m) at h) in
    record { circuit = rw (one c m) u.circuit; nothing = rw (one c m) u.sent }

pub demand_mixed : (source relay : PeerId) (circuit : ConnectionId) (s : Settings) (at : ℕ) (calls : List Mixed) → Demand3Mixed source relay circuit s at calls
demand_mixed source relay circuit s at calls =
    let e = (as_made calls (begun source relay circuit s at)).same_sent in
    record {
      same = rw e (run.same source relay circuit s at (made_all calls));
      bound = rw (e, run.same source relay circuit s at (made_all calls)) (count.bound source relay circuit s at (made_all calls));
    }
