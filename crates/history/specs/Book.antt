-- The book of demand 3: a plain machine that is fed the settings, the calls' arguments and which calls were refused. It takes the
-- steps of RULES.md, section 11, and keeps of each window the list, when it starts and ends, the round trip and the largest reading. It
-- sends nothing and counts no instant.
use Rattle.std.specs.Prelude.{ℕ, ◌+◌, ◌-◌, min, Bool, true, false, List, [], ◌∷◌, ◌++◌, ltb, eqb, None, Option, Some}
use Rattle.prelude.specs.Choice.{pick, both}
use Rattle.time.specs.Time.{last, plus}
use Rattle.schedule.specs.Instants.{start_of}
use Rattle.schedule.specs.Readings.{Largest, none, larger}
use Rattle.ids.specs.declared.ConnectionId.{ConnectionId}
use Rattle.ids.specs.declared.StreamId.{StreamId}
use Rattle.ids.specs.declared.PeerId.{PeerId}
use Rattle.vocabulary.specs.declared.Settings.{Settings}
use Rattle.vocabulary.specs.declared.Host.{Host}
use Rattle.vocabulary.specs.declared.StreamInput.{StreamInput}
use Rattle.vocabulary.specs.declared.StreamInput.TheVariants as i
use Rattle.circuit.specs.declared.state.ConnectWrite.{ConnectWrite}
use Rattle.circuit.specs.declared.state.ConnectWrite.TheVariants.{Unsent, Held, Sent}
use Rattle.lent.specs.Brought.{Brought, unfinished, failed, connect}
use Rattle.wire.specs.Lists.{entries}
use Rattle.message.specs.Encoding.{frame_bytes}
use Rattle.message.specs.declared.Kind.TheVariants.{Connect}
use Rattle.candidates.specs.declared.Terms.{Terms}
use Rattle.candidates.specs.Selection.{usual, selected, own}
use Rattle.history.specs.Heard.{heard}
use Rattle.history.specs.Calls.{Call, up, input, tick, wrote, down}

-- a window, with the largest reading of its ticks
pub record Window : Type 0 where
  pub list : List (List ℕ)
  pub start : ℕ
  pub end : ℕ
  pub trip : ℕ
  pub largest : Largest

-- a running exchange: its pair, its end, the count of frame bytes, how far CONNECT got, and its bytes
pub record Asking : Type 0 where
  pub conn : ConnectionId
  pub stream : StreamId
  pub end : ℕ
  pub count : ℕ
  pub connect : ConnectWrite
  pub message : List ℕ

-- where the circuit stands; in the handshake, up to its end
pub data Stage : Type 0 where
  handshaking : ℕ → Stage
  asking : Asking → Stage
  within : Window → Stage
  over : Stage

-- the stage, the upgrade's deadline, the rounds begun, and the windows before the stage's own
pub record Book : Type 0 where
  pub stage : Stage
  pub deadline : ℕ
  pub rounds : ℕ
  pub past : List Window

-- whose circuit it is
pub record Who : Type 0 where
  pub source : PeerId
  pub relay : PeerId
  pub circuit : ConnectionId

-- ---- steps

-- a new circuit: the handshake's end is known, nothing else; where its start is refused (section 11.3) it is Done
abbrev pub fresh : Settings → ℕ → Book
fresh s at =
    record { stage = pick (ltb last (at + s.handshake)) over (handshaking (at + s.handshake)); deadline = 0; rounds = 0; past = [] }

abbrev pub in_stage : Book → Stage → Book
in_stage b g = record { stage = g; deadline = b.deadline; rounds = b.rounds; past = b.past }

-- the window that a stage is in
abbrev pub current : Stage → List Window
current (handshaking end) = []
current (asking x) = []
current (within w) = w ∷ []
current over = []

-- the windows so far, in order
abbrev pub windows : Book → List Window
windows b = b.past ++ current b.stage

-- the circuit is Done
abbrev pub closed : Book → Book
closed b = record { stage = over; deadline = b.deadline; rounds = b.rounds; past = windows b }

-- a round is wanted (section 11.4): the live connection is the circuit, fewer than three rounds were begun, the deadline is not
-- reached, and there is a stream
abbrev pub is_circuit : Who → Option ConnectionId → Bool
is_circuit who None = false
is_circuit who (Some conn) = eqb conn.0 who.circuit.0

-- what candidates are chosen by (section 7): the usual limits, and private targets on or off
abbrev pub terms_of : Settings → Terms
terms_of s = record { limits = usual; private = s.private }

-- the CONNECT of a round, from the own list of the call that opens it: the candidates chosen from the list, framed (sections 4, 5 and 7)
abbrev pub connect_of : Settings → List ℕ → List ℕ
connect_of s list = frame_bytes Connect (own (terms_of s).limits (entries list))

abbrev pub begins : Settings → Host → (own : List ℕ) → Book → Option (ConnectionId × StreamId) → Book
begins s h own b None = closed b
begins s h own b (Some (conn, stream)) =
    record {
      stage = asking (record {
        conn = conn;
        stream = stream;
        end = min (plus h.at s.exchange) b.deadline;
        count = 0;
        connect = Unsent;
        message = connect_of s own;
      });
      deadline = b.deadline;
      rounds = b.rounds + 1;
      past = windows b;
    }

abbrev pub wanted : Settings → Who → Host → (own : List ℕ) → Book → Book
wanted s who h own b =
    pick (both (is_circuit who h.live) (both (ltb b.rounds 3) (ltb h.at b.deadline))) (begins s h own b h.offer) (closed b)

-- tick (section 11.6); a reading that an accepted tick brings in a window, below the deadline, may be its largest
abbrev pub seen : ℕ → Window → Window
seen at w = record { list = w.list; start = w.start; end = w.end; trip = w.trip; largest = larger at w.largest }

abbrev pub tick_in : Settings → Who → Host → (own : List ℕ) → Book → Stage → Book
tick_in s who h own b (handshaking end) = pick (ltb h.at end) b (closed b)
tick_in s who h own b (asking x) =
    pick (ltb h.at b.deadline) (pick (ltb h.at x.end) b (wanted s who h own b)) (closed b)
tick_in s who h own b (within w) =
    pick (ltb h.at b.deadline)
    (pick (ltb h.at w.end) (in_stage b (within (seen h.at w))) (wanted s who h own (in_stage b (within (seen h.at w)))))
    (closed b)
tick_in s who h own b over = b

-- up (section 11.5); where the circuit comes up, the deadline is set
abbrev pub armed : Settings → Host → Book → Book
armed s h b = record { stage = b.stage; deadline = plus h.at s.upgrade; rounds = 0; past = b.past }

abbrev pub up_in : Settings → Who → Host → (own : List ℕ) → Bool → ConnectionId → Book → Stage → Book
up_in s who h own relayed conn b (handshaking end) =
    pick relayed
    (pick (eqb conn.0 who.circuit.0) (pick s.upgrades (wanted s who h own (armed s h b)) (closed b)) b)
    (closed b)
up_in s who h own relayed conn b (asking x) = pick relayed b (closed b)
up_in s who h own relayed conn b (within w) = pick relayed b (closed b)
up_in s who h own relayed conn b over = b

-- input (section 11.7)
abbrev pub is_closing : StreamInput → Bool
is_closing i.Ready = false
is_closing i.Data = false
is_closing i.RemoteWriteClosed = true
is_closing i.Closed = true

-- the round trip, from CONNECT sent to the reply; 0 while its write is held
abbrev pub trip_of : ConnectWrite → ℕ → ℕ
trip_of Unsent at = 0
trip_of Held at = 0
trip_of (Sent t) at = at - t

-- the window that a reply opens (section 9)
abbrev pub opened : Settings → ℕ → ℕ → ℕ → List (List ℕ) → Window
opened s deadline at trip list =
    record {
      list = list;
      start = start_of at trip;
      end = min (plus (start_of at trip) s.punch) deadline;
      trip = trip;
      largest = none;
    }

abbrev pub with_count : Asking → ℕ → Asking
with_count x n = record { conn = x.conn; stream = x.stream; end = x.end; count = n; connect = x.connect; message = x.message }

abbrev pub with_connect : Asking → ConnectWrite → Asking
with_connect x w = record { conn = x.conn; stream = x.stream; end = x.end; count = x.count; connect = w; message = x.message }

-- what the bytes brought: no whole frame yet, a failed round, or a window with the addresses chosen from the reply
abbrev pub replied : Settings → Who → Host → (own : List ℕ) → Book → Asking → Brought → Book
replied s who h own b x (unfinished n) = in_stage b (asking (with_count x n))
replied s who h own b x failed = wanted s who h own b
replied s who h own b x (connect addresses) =
    in_stage b (within (opened s b.deadline h.at (trip_of x.connect h.at) (selected (terms_of s) addresses)))

-- CONNECT has gone out before
abbrev pub answered_by : Settings → Who → Host → (own buffer : List ℕ) → StreamInput → List ℕ → Book → Asking → Book
answered_by s who h own buffer i.Ready bytes b x = b
answered_by s who h own buffer i.Data bytes b x = replied s who h own b x (heard bytes buffer x.count)
answered_by s who h own buffer i.RemoteWriteClosed bytes b x = wanted s who h own b
answered_by s who h own buffer i.Closed bytes b x = wanted s who h own b

-- before the exchange's end; the first input sends CONNECT, and its bytes are dropped
abbrev pub input_to : Settings → Who → Host → (own buffer : List ℕ) → StreamInput → List ℕ → Bool → Book → Asking → ConnectWrite → Book
input_to s who h own buffer kind bytes pending b x Unsent =
    pick (is_closing kind) (wanted s who h own b) (in_stage b (asking (with_connect x (pick pending Held (Sent h.at)))))
input_to s who h own buffer kind bytes pending b x Held = answered_by s who h own buffer kind bytes b x
input_to s who h own buffer kind bytes pending b x (Sent t) = answered_by s who h own buffer kind bytes b x

-- at or past the exchange's end it does what a tick does
abbrev pub input_in : Settings → Who → Host → (own buffer : List ℕ) → StreamId → StreamInput → List ℕ → Bool → Book → Stage → Book
input_in s who h own buffer stream kind bytes pending b (handshaking end) = b
input_in s who h own buffer stream kind bytes pending b (asking x) =
    pick (eqb x.stream.0 stream.0)
    (pick (ltb h.at x.end) (input_to s who h own buffer kind bytes pending b x x.connect) (tick_in s who h own b (asking x)))
    b
input_in s who h own buffer stream kind bytes pending b (within w) = b
input_in s who h own buffer stream kind bytes pending b over = b

-- wrote and down (section 11.8)
abbrev pub wrote_to : ℕ → Book → Asking → ConnectWrite → Book
wrote_to at b x Unsent = b
wrote_to at b x Held = in_stage b (asking (with_connect x (Sent at)))
wrote_to at b x (Sent t) = b

abbrev pub wrote_in : ℕ → ConnectionId → StreamId → Book → Stage → Book
wrote_in at conn stream b (handshaking end) = b
wrote_in at conn stream b (asking x) =
    pick (both (eqb x.conn.0 conn.0) (eqb x.stream.0 stream.0)) (wrote_to at b x x.connect) b
wrote_in at conn stream b (within w) = b
wrote_in at conn stream b over = b

-- a call that was accepted
unfoldable pub note : Settings → Who → Book → Call → Book
note s who b (up l h own peer conn relayed) = pick (eqb peer.0 who.source.0) (up_in s who h own relayed conn b b.stage) b
note s who b (input l buffer h own stream kind bytes pending) = input_in s who h own buffer stream kind bytes pending b b.stage
note s who b (tick l h own) = tick_in s who h own b b.stage
note s who b (wrote at conn stream) = wrote_in at conn stream b b.stage
note s who b (down at peer conn) = pick (eqb conn.0 who.circuit.0) (closed b) b

-- all calls, each with whether it was refused; a refused call changes nothing
unfoldable pub notes : Settings → Who → Book → List Call → List Bool → Book
notes s who b [] rs = b
notes s who b (k ∷ ks) [] = b
notes s who b (k ∷ ks) (r ∷ rs) = notes s who (pick r b (note s who b k)) ks rs
