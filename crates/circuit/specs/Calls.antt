-- The calls that touch no bytes (RULES.md, sections 11.3 and 11.8), and what a refused call decides.
use Rattle.std.specs.Prelude.{ℕ, ◌+◌, false, ltb, eqb, Err, Ok, Result, ⊤}
use Rattle.prelude.specs.Choice.{pick, both, no}
use Rattle.time.specs.Time.{last}
use Rattle.ids.specs.declared.ConnectionId.{ConnectionId}
use Rattle.ids.specs.declared.StreamId.{StreamId}
use Rattle.ids.specs.declared.PeerId.{PeerId}
use Rattle.refusal.specs.declared.Refusal.TheVariants.{HandshakeTooLate}
use Rattle.budget.specs.Budget.{armed}
use Rattle.vocabulary.specs.declared.Settings.{Settings}
use Rattle.circuit.specs.declared.state.Core.{Core}
use Rattle.circuit.specs.declared.state.Phase.{Phase}
use Rattle.circuit.specs.declared.state.Phase.TheVariants.{Handshaking, Exchange, Punching, Done}
use Rattle.circuit.specs.declared.state.ConnectWrite.{ConnectWrite}
use Rattle.circuit.specs.declared.state.ConnectWrite.TheVariants.{Unsent, Held, Sent}
use Rattle.circuit.specs.declared.decision.Decision.{Decision}
use Rattle.circuit.specs.State.{in_phase, done_of, is_done}
use Rattle.circuit.specs.Decisions.{quiet_of, refused_of}
use Rattle.refusal.specs.declared.Refusal.{Refusal}

-- ---- start (section 11.3)

-- nothing is known of an upgrade yet
unfoldable pub begun_of : PeerId → PeerId → ConnectionId → Settings → Phase → Core
begun_of source relay circuit s p =
    record {
      source = source;
      relay = relay;
      circuit = circuit;
      settings = s;
      phase = p;
      budget = armed 0 s.upgrade s.exchange s.punch;
      connect = 0;
      targets = 0;
    }

-- refused where the plain sum of the reading and the handshake passes the last time; then the circuit is Done
unfoldable pub started_of : PeerId → PeerId → ConnectionId → Settings → ℕ → Decision
started_of source relay circuit s at =
    pick (ltb last (at + s.handshake)) (refused_of (begun_of source relay circuit s (Done false)) HandshakeTooLate)
    (quiet_of (begun_of source relay circuit s (Handshaking (at + s.handshake))))

-- ---- wrote and down (section 11.8)

abbrev pub wrote_to : Core → ℕ → ConnectionId → StreamId → ℕ → ConnectWrite → Core
wrote_to c at conn stream count Unsent = c
wrote_to c at conn stream count Held = in_phase c (Exchange conn stream count (Sent at))
wrote_to c at conn stream count (Sent t) = c

abbrev pub wrote_at : Core → ℕ → ConnectionId → StreamId → Phase → Core
wrote_at c at conn stream (Handshaking deadline) = c
wrote_at c at conn stream (Exchange on running count connect) =
    pick (both (eqb on.0 conn.0) (eqb running.0 stream.0)) (wrote_to c at on running count connect) c
wrote_at c at conn stream (Punching until q) = c
wrote_at c at conn stream (Done promoted) = c

unfoldable pub wrote_of : Core → ℕ → ConnectionId → StreamId → Decision
wrote_of c at conn stream = quiet_of (wrote_at c at conn stream c.phase)

unfoldable pub down_of : Core → ConnectionId → Decision
down_of c conn = quiet_of (pick (both (eqb conn.0 c.circuit.0) (no (is_done c.phase))) (done_of c) c)

-- ---- refused

-- a call that is refused changes nothing
abbrev pub unless : Core → Decision → Result ⊤ Refusal → Decision
unless c d (Ok tt) = d
unless c d (Err why) = refused_of c why
