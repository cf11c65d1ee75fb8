-- What the book tells of each call (RULES.md, sections 11.4 to 11.8): what its answer says, and what becomes of the source's window in the
-- ledger. The tables of the rule row by row; the book's next page is Book's `note`.
use Rattle.std.specs.Prelude.{ℕ, ◌-◌, Bool, true, false, List, [], ◌∷◌, ◌++◌, ltb, eqb, None, Option, Some}
use Rattle.prelude.specs.Choice.{pick, both, either, no}
use Rattle.schedule.specs.Readings.{larger, counted}
use Rattle.candidates.specs.Selection.{selected}
use Rattle.ids.specs.declared.ConnectionId.{ConnectionId}
use Rattle.ids.specs.declared.StreamId.{StreamId}
use Rattle.ids.specs.declared.PeerId.{PeerId}
use Rattle.vocabulary.specs.declared.Settings.{Settings}
use Rattle.vocabulary.specs.declared.Host.{Host}
use Rattle.vocabulary.specs.declared.StreamInput.{StreamInput}
use Rattle.vocabulary.specs.declared.StreamInput.TheVariants as i
use Rattle.circuit.specs.declared.state.ConnectWrite.{ConnectWrite}
use Rattle.circuit.specs.declared.state.ConnectWrite.TheVariants.{Unsent, Held, Sent}
use Rattle.lent.specs.Brought.{Brought, unfinished, failed, connect}
use Rattle.frames.specs.Gathering.{gathered_into}
use Rattle.history.specs.Numbers.{went_out, is_data}
use Rattle.history.specs.Heard.{heard}
use Rattle.history.specs.Calls.{Call, up, input, tick, wrote, down}
use Rattle.history.specs.Refuses.{refusal, turned, next}
use Rattle.history.specs.Book.{Window, Asking, Stage, handshaking, asking, within, over, Book, Who, is_circuit, terms_of, armed, is_closing, trip_of}

-- an effect, with what belongs to it
pub data Says : Type 0 where
  path : (peer relay : PeerId) → ConnectionId → Says
  burst : (times payload : ℕ) → (targets : List (List ℕ)) → Says
  upgrade : PeerId → (old new : ConnectionId) → Says
  close : ConnectionId → Says
  send : ConnectionId → StreamId → (bytes : List ℕ) → Says
  reset : ConnectionId → StreamId → Says
  opens : ConnectionId → StreamId → Says

-- the source's window in the ledger: it stays as it is, is removed, or is opened to a time, or extended to it
pub data Lot : Type 0 where
  stays : Lot
  removed : Lot
  until : ℕ → Lot

pub record Told : Type 0 where
  pub said : List Says
  pub lot : Lot

abbrev pub only : List Says → Told
only said = record { said = said; lot = stays }

abbrev pub nothing : Told
nothing = only []

-- ---- a round is wanted (section 11.4), behind what was said: the offered pair is opened, or the source's window is removed

abbrev pub opening : List Says → Option (ConnectionId × StreamId) → Told
opening said None = record { said = said; lot = removed }
opening said (Some (conn, stream)) = only (said ++ (opens conn stream ∷ []))

abbrev pub wants : Who → Host → Book → List Says → Told
wants who h b said =
    pick (both (is_circuit who h.live) (both (ltb b.rounds 3) (ltb h.at b.deadline))) (opening said h.offer)
    (record { said = said; lot = removed })

-- ---- tick (section 11.6)

abbrev pub is_none : {A : Type 0} → List A → Bool
is_none [] = true
is_none (x ∷ xs) = false

-- so many instants, for the list of targets; without one or the other there is no burst
abbrev pub blast : Settings → ℕ → List (List ℕ) → List Says
blast s times list = pick (either (eqb times 0) (is_none list)) [] (burst times s.payload list ∷ [])

-- how many instants of the window count with this reading that did not count before it (section 9)
abbrev pub newly : Settings → ℕ → Window → ℕ
newly s at w =
    counted s.interval w.start w.end w.trip (larger at w.largest) - counted s.interval w.start w.end w.trip w.largest

abbrev pub tick_tells : Settings → Who → Host → Book → Stage → Told
tick_tells s who h b (handshaking end) = pick (ltb h.at end) nothing (only (close who.circuit ∷ []))
tick_tells s who h b (asking x) =
    pick (ltb h.at b.deadline)
    (pick (ltb h.at x.end) nothing (wants who h b (reset x.conn x.stream ∷ [])))
    (only (reset x.conn x.stream ∷ []))
tick_tells s who h b (within w) =
    pick (ltb h.at b.deadline)
    (pick (ltb h.at w.end) (only (blast s (newly s h.at w) w.list)) (wants who h b (blast s (newly s h.at w) w.list)))
    nothing
tick_tells s who h b over = nothing

-- ---- up (section 11.5), of a connection from the source

abbrev pub up_tells : Settings → Who → Host → Bool → ConnectionId → Book → Stage → Told
up_tells s who h relayed conn b (handshaking end) =
    pick relayed
    (pick (eqb conn.0 who.circuit.0)
    (pick s.upgrades (wants who h (armed s h b) (path who.source who.relay who.circuit ∷ []))
    (only (path who.source who.relay who.circuit ∷ [])))
    nothing)
    (only (upgrade who.source who.circuit conn ∷ []))
up_tells s who h relayed conn b (asking x) =
    pick relayed nothing (only (upgrade who.source who.circuit conn ∷ reset x.conn x.stream ∷ []))
up_tells s who h relayed conn b (within w) = pick relayed nothing (only (upgrade who.source who.circuit conn ∷ []))
up_tells s who h relayed conn b over = nothing

-- ---- whether an up takes the connection as the circuit's own (section 11.5): one from the source, while the circuit is not over, that is direct
-- or is the circuit itself

abbrev pub up_takes : Who → Bool → ConnectionId → Stage → Bool
up_takes who relayed conn (handshaking end) = either (no relayed) (eqb conn.0 who.circuit.0)
up_takes who relayed conn (asking x) = either (no relayed) (eqb conn.0 who.circuit.0)
up_takes who relayed conn (within w) = either (no relayed) (eqb conn.0 who.circuit.0)
up_takes who relayed conn over = false

-- ---- input (section 11.7)

-- SYNC behind its length (section 4)
abbrev pub sync : List ℕ
sync = 0x03 ∷ 0x08 ∷ 0xac ∷ 0x02 ∷ []

-- a CONNECT as the reply: at round trip 0 one instant, SYNC, the reset; the source's window lasts to the upgrade's deadline
abbrev pub replied_tells : Settings → Who → Host → Book → Asking → Brought → Told
replied_tells s who h b x (unfinished n) = nothing
replied_tells s who h b x failed = wants who h b (reset x.conn x.stream ∷ [])
replied_tells s who h b x (connect addresses) =
    record {
      said = blast s (pick (eqb (trip_of x.connect h.at) 0) 1 0) (selected (terms_of s) addresses)
          ++ (send x.conn x.stream sync ∷ reset x.conn x.stream ∷ []);
      lot = until b.deadline;
    }

-- CONNECT is held or sent
abbrev pub later_tells : Settings → Who → Host → List ℕ → StreamInput → List ℕ → Book → Asking → Told
later_tells s who h buffer i.Ready bytes b x = nothing
later_tells s who h buffer i.Data bytes b x = replied_tells s who h b x (heard bytes buffer x.count)
later_tells s who h buffer i.RemoteWriteClosed bytes b x = wants who h b (reset x.conn x.stream ∷ [])
later_tells s who h buffer i.Closed bytes b x = wants who h b (reset x.conn x.stream ∷ [])

abbrev pub timely_tells : Settings → Who → Host → List ℕ → StreamInput → List ℕ → Book → Asking → ConnectWrite → Told
timely_tells s who h buffer kind bytes b x Unsent =
    pick (is_closing kind) (wants who h b (send x.conn x.stream x.message ∷ reset x.conn x.stream ∷ []))
    (only (send x.conn x.stream x.message ∷ []))
timely_tells s who h buffer kind bytes b x Held = later_tells s who h buffer kind bytes b x
timely_tells s who h buffer kind bytes b x (Sent t) = later_tells s who h buffer kind bytes b x

abbrev pub input_tells : Settings → Who → Host → List ℕ → StreamId → StreamInput → List ℕ → Book → Stage → Told
input_tells s who h buffer stream kind bytes b (handshaking end) = nothing
input_tells s who h buffer stream kind bytes b (asking x) =
    pick (eqb x.stream.0 stream.0)
    (pick (ltb h.at x.end) (timely_tells s who h buffer kind bytes b x x.connect) (tick_tells s who h b (asking x)))
    nothing
input_tells s who h buffer stream kind bytes b (within w) = nothing
input_tells s who h buffer stream kind bytes b over = nothing

-- ---- the reply buffer behind an input (sections 4 and 11.7): data that comes in time once CONNECT has gone out is gathered in it

abbrev pub gathers : Host → List ℕ → StreamId → StreamInput → List ℕ → Stage → List ℕ
gathers h buffer stream kind bytes (handshaking end) = buffer
gathers h buffer stream kind bytes (asking x) =
    pick (both (eqb x.stream.0 stream.0) (both (ltb h.at x.end) (both (went_out x.connect) (is_data kind))))
    (gathered_into bytes buffer x.count)
    buffer
gathers h buffer stream kind bytes (within w) = buffer
gathers h buffer stream kind bytes over = buffer

-- ---- a call that was accepted

unfoldable pub tells : Settings → Who → Book → Call → Told
tells s who b (up l h own peer conn relayed) = pick (eqb peer.0 who.source.0) (up_tells s who h relayed conn b b.stage) nothing
tells s who b (input l buffer h own stream kind bytes pending) = input_tells s who h buffer stream kind bytes b b.stage
tells s who b (tick l h own) = tick_tells s who h b b.stage
tells s who b (wrote at conn stream) = nothing
tells s who b (down at peer conn) = nothing

-- no other call takes a connection
unfoldable pub takes : Who → Book → Call → Bool
takes who b (up l h own peer conn relayed) = both (eqb peer.0 who.source.0) (up_takes who relayed conn b.stage)
takes who b (input l buffer h own stream kind bytes pending) = false
takes who b (tick l h own) = false
takes who b (wrote at conn stream) = false
takes who b (down at peer conn) = false

-- all calls; a refused call says nothing, and nothing changes
unfoldable pub tells_all : Settings → Who → Book → List Call → List Told
tells_all s who b [] = []
tells_all s who b (k ∷ ks) = pick (turned (refusal who b k)) nothing (tells s who b k) ∷ tells_all s who (next s who b k) ks

-- a refused call takes nothing
unfoldable pub takes_all : Settings → Who → Book → List Call → List Bool
takes_all s who b [] = []
takes_all s who b (k ∷ ks) = pick (turned (refusal who b k)) false (takes who b k) ∷ takes_all s who (next s who b k) ks
