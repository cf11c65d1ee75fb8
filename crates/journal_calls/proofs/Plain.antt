-- A write and a lost connection leave the journal's memory. Assumes nothing.
use mathlib.Core.Path.{◌≡◌, refl}
use Prim.Native.Nat.{ℕ}
use Rattle.ids.specs.declared.ConnectionId.{ConnectionId}
use Rattle.ids.specs.declared.StreamId.{StreamId}
use Rattle.circuit.specs.Calls.{wrote_of, down_of}
use Rattle.circuit.specs.Decisions.{quiet_of, decided_of, silence, event_of}
use Rattle.carried.specs.Carried.{sent_after}
use Rattle.journal_calls.specs.declared.Running.{Running}
use Rattle.journal_calls.specs.declared.Memory.{Memory}
use Rattle.journal_calls.specs.Calls.{whole, turned, running, settled_in, wrote_turn, down_turn}

module _ (r : Running) (m : Memory) where
  pub wrote_left : (at : ℕ) (conn : ConnectionId) (stream : StreamId)
      → turned (settled_in (running r) (wrote_of r.core at conn stream) (wrote_of r.core at conn stream).outcome) m
      ≡ wrote_turn (whole (running r) m) at conn stream
  unfolding wrote_turn wrote_of quiet_of decided_of silence event_of sent_after
  wrote_left at conn stream = refl

  pub down_left : (conn : ConnectionId)
      → turned (settled_in (running r) (down_of r.core conn) (down_of r.core conn).outcome) m ≡ down_turn (whole (running r) m) conn
  unfolding down_turn down_of quiet_of decided_of silence event_of sent_after
  down_left conn = refl
