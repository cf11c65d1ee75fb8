-- Input (RULES.md, section 11.7).
use Rattle.std.specs.Prelude.{ℕ, ◌-◌, Bool, true, false, eqb, ltb, None, Option, Some}
use Rattle.prelude.specs.Choice.{pick, both}
use Rattle.ids.specs.declared.StreamId.{StreamId}
use Rattle.refusal.specs.declared.Refusal.TheVariants.{LedgerFull}
use Rattle.budget.specs.declared.UpgradeBudget.{UpgradeBudget}
use Rattle.budget.specs.declared.UpgradeStop.{UpgradeStop}
use Rattle.budget.specs.declared.UpgradeStop.TheVariants.{ExchangeTimeout, UpgradeTimeout}
use Rattle.budget.specs.Budget.{ended, window_end, due_at, next_deadline}
use Rattle.schedule.specs.Instants.{start_of}
use Rattle.schedule.specs.Schedule.{opened_of}
use Rattle.vocabulary.specs.declared.Host.{Host}
use Rattle.vocabulary.specs.declared.StreamInput.{StreamInput}
use Rattle.vocabulary.specs.declared.StreamInput.TheVariants as i
use Rattle.circuit.specs.declared.state.Core.{Core}
use Rattle.circuit.specs.declared.state.Phase.{Phase}
use Rattle.circuit.specs.declared.state.Phase.TheVariants.{Handshaking, Exchange, Punching, Done}
use Rattle.circuit.specs.declared.state.ConnectWrite.{ConnectWrite}
use Rattle.circuit.specs.declared.state.ConnectWrite.TheVariants.{Unsent, Held, Sent}
use Rattle.circuit.specs.declared.decision.Fate.TheVariants.{Kept, Opened}
use Rattle.circuit.specs.declared.decision.Message.TheVariants.{Connect, Sync}
use Rattle.circuit.specs.declared.decision.Decision.{Decision}
use Rattle.inputs.specs.declared.Running.{Running}
use Rattle.inputs.specs.declared.Window.{Window}
use Rattle.inputs.specs.declared.Heard.{Heard}
use Rattle.inputs.specs.declared.Heard.TheVariants as heard
use Rattle.circuit.specs.State.{in_phase, punching_of}
use Rattle.circuit.specs.Decisions.{silence, reset_of, burst_of, sending_of, decided_of, quiet_of, refused_of}
use Rattle.rounds.specs.Rounds.{fail_round}
use Rattle.upgrade.specs.Ticks.{tick_exchange}

unfoldable pub closing : StreamInput → Bool
closing i.Ready = false
closing i.Data = false
closing i.RemoteWriteClosed = true
closing i.Closed = true

unfoldable pub in_exchange : Core → Running → ℕ → ConnectWrite → Core
in_exchange c x count connect = in_phase c (Exchange x.conn x.stream count connect)

unfoldable pub write_of : Bool → ℕ → ConnectWrite
write_of pending at = pick pending Held (Sent at)

-- CONNECT goes out with the first input; a closing one fails the round
unfoldable pub first_input : Core → Host → Running → Bool → Bool → Decision
first_input c h x over pending =
    pick over (fail_round c h (sending_of silence x.conn x.stream (Some (Connect c.connect)) true))
    (decided_of (in_exchange c x x.count (write_of pending h.at)) Kept (sending_of silence x.conn x.stream (Some (Connect c.connect)) false) None)

unfoldable pub round_trip : ConnectWrite → ℕ → ℕ
round_trip Unsent at = 0
round_trip Held at = 0
round_trip (Sent sent) at = at - sent

-- the window of a reply (section 9): its end, what is due with the reply, and the instants ahead
unfoldable pub window_of : UpgradeBudget → ℕ → ConnectWrite → ℕ → Window
window_of b interval connect at =
    record {
      until = window_end b (start_of at (round_trip connect at));
      due = opened_of (start_of at (round_trip connect at)) (window_end b (start_of at (round_trip connect at))) interval (round_trip connect at);
    }

-- burst if due, SYNC, reset; the source's ledger window lasts to the upgrade's deadline
abbrev pub opening : Core → Running → ℕ → Window → Decision
opening c x targets w =
    decided_of (punching_of c (ended c.budget) w.until w.due.schedule targets) (Opened c.budget.deadline)
    (sending_of (burst_of w.due.times c.settings.payload targets) x.conn x.stream (Some Sync) true) None

unfoldable pub open_window : Core → ℕ → Running → ℕ → Decision
open_window c at x targets = opening c x targets (window_of c.budget c.settings.interval x.connect at)

-- what was heard of the reply; a ledger window for the source may have no room
abbrev pub replied : Core → Host → Running → Bool → Option Heard → Decision
replied c h x full None = quiet_of c
replied c h x full (Some (heard.More n)) = quiet_of (in_exchange c x n x.connect)
replied c h x full (Some heard.Failed) = fail_round c h (reset_of x.conn x.stream)
replied c h x full (Some (heard.Connect targets)) = pick full (refused_of c LedgerFull) (open_window c h.at x targets)

-- CONNECT has gone out
abbrev pub later_input : Core → Host → Running → Option Heard → Bool → StreamInput → Decision
later_input c h x heard full i.Ready = quiet_of c
later_input c h x heard full i.Data = replied c h x full heard
later_input c h x heard full i.RemoteWriteClosed = fail_round c h (reset_of x.conn x.stream)
later_input c h x heard full i.Closed = fail_round c h (reset_of x.conn x.stream)

abbrev pub timely_input : Core → Host → Running → StreamInput → Bool → Option Heard → Bool → ConnectWrite → Decision
timely_input c h x kind pending heard full Unsent = first_input c h x (closing kind) pending
timely_input c h x kind pending heard full Held = later_input c h x heard full kind
timely_input c h x kind pending heard full (Sent at) = later_input c h x heard full kind

-- at or past the exchange's end, or the deadline, it does the circuit's tick
abbrev pub in_time : Core → Host → Running → StreamInput → Bool → Option Heard → Bool → Option UpgradeStop → Decision
in_time c h x kind pending heard full None = timely_input c h x kind pending heard full x.connect
in_time c h x kind pending heard full (Some (ExchangeTimeout round ms)) = tick_exchange c h x.conn x.stream
in_time c h x kind pending heard full (Some (UpgradeTimeout ms)) = tick_exchange c h x.conn x.stream

unfoldable pub exchange_input : Core → Host → Running → StreamInput → Bool → Option Heard → Bool → Decision
exchange_input c h x kind pending heard full = in_time c h x kind pending heard full (due_at c.budget h.at)

-- an input does nothing but on the exchange's stream
abbrev pub input_at : Core → Host → StreamId → StreamInput → Bool → Option Heard → Bool → Phase → Decision
input_at c h stream kind pending heard full (Handshaking deadline) = quiet_of c
input_at c h stream kind pending heard full (Exchange conn on count write) =
    pick (eqb on.0 stream.0)
    (exchange_input c h (record { conn = conn; stream = on; count = count; connect = write }) kind pending heard full)
    (quiet_of c)
input_at c h stream kind pending heard full (Punching until q) = quiet_of c
input_at c h stream kind pending heard full (Done promoted) = quiet_of c

-- ---- whether an input's bytes are the reply's: data on the exchange's stream, in time, once CONNECT has gone out

abbrev pub went_out : ConnectWrite → Bool
went_out Unsent = false
went_out Held = true
went_out (Sent at) = true

abbrev pub is_data : StreamInput → Bool
is_data i.Ready = false
is_data i.Data = true
is_data i.RemoteWriteClosed = false
is_data i.Closed = false

unfoldable pub awaits_in : UpgradeBudget → ℕ → StreamId → ConnectWrite → StreamId → StreamInput → Bool
awaits_in b at on connect stream kind =
    both (eqb on.0 stream.0) (both (ltb at (next_deadline b)) (both (went_out connect) (is_data kind)))

abbrev pub awaits : Core → ℕ → StreamId → StreamInput → Phase → Bool
awaits c at stream kind (Handshaking deadline) = false
awaits c at stream kind (Exchange conn on count connect) = awaits_in c.budget at on connect stream kind
awaits c at stream kind (Punching until q) = false
awaits c at stream kind (Done promoted) = false

-- how many bytes of the reply's frame are in the buffer
abbrev pub frame_bytes : Phase → ℕ
frame_bytes (Handshaking deadline) = 0
frame_bytes (Exchange conn on count connect) = count
frame_bytes (Punching until q) = 0
frame_bytes (Done promoted) = 0
