-- The book's windows: at most three, of at most eight addresses each; so their datagrams keep to the bound.
-- Assumes nothing.
use mathlib.Core.Path.{◌≡◌, refl}
use mathlib.Core.Bool.{Bool, true, false}
use mathlib.Core.List.{List, [], ◌∷◌, ◌++◌, append-nil}
use Prim.Native.Nat.{ℕ, zero, suc, ◌+◌, ◌-◌, ◌*◌, ◌/◌, ◌≤◌, ◌<◌, max}
use native.Mathlib.Nat.{mul-le-mul, le_trans, le-div_iff_mul-le, div-mul-le_self, mul-le-mul_right}
use native.Mathlib.Omega.{arith}
use borrow.Author.Tests.{ltb-true}
use lib.Dec.{ltb, eqb}
use lib.ListN.{length, length-append}
use Rattle.std.specs.Prelude.{None, Option, Some}
use Rattle.time.specs.Time.{last}
use Rattle.prelude.specs.Choice.{pick, both}
use Rattle.ids.specs.declared.PeerId.{PeerId}
use Rattle.ids.specs.declared.ConnectionId.{ConnectionId}
use Rattle.ids.specs.declared.StreamId.{StreamId}
use Rattle.schedule.specs.Readings.{counted}
use Rattle.schedule.proofs.Counted.{counted_le}
use Rattle.candidates.specs.Selection.{selected}
use Rattle.candidates.proofs.Promises.{selection_limits}
use Rattle.vocabulary.specs.declared.Settings.{Settings}
use Rattle.vocabulary.specs.declared.Host.{Host}
use Rattle.vocabulary.specs.declared.StreamInput.{StreamInput}
use Rattle.vocabulary.specs.declared.StreamInput.TheVariants as i
use Rattle.circuit.specs.declared.state.ConnectWrite.{ConnectWrite}
use Rattle.circuit.specs.declared.state.ConnectWrite.TheVariants.{Unsent, Held, Sent}
use Rattle.lent.specs.Brought.{Brought, unfinished, failed, connect}
use Rattle.history.specs.Heard.{heard}
use Rattle.history.specs.Calls.{Call, up, input, tick, wrote, down, to_each, copies, refusals}
use Rattle.history.specs.Book.{terms_of, Window, Asking, Stage, handshaking, asking, within, over, Book, Who, fresh, current, windows, closed, is_circuit, begins, wanted, seen, tick_in, armed, up_in, is_closing, trip_of, opened, with_count, with_connect, replied, answered_by, input_to, input_in, wrote_to, wrote_in, note, notes}
use Rattle.history.specs.Demand3.{of_window, due, longest, most, begun, windows_of}

-- ---- each window has at most eight addresses

abbrev Short : List Window → Type 0
Short [] = Unit {0}
Short (w ∷ ws) = (length w.list ≤ 8) × Short ws

short_append : (us vs : List Window) → Short us → Short vs → Short (us ++ vs)
short_append [] vs p q = q
short_append (u ∷ us) vs p q = (p.0, short_append us vs p.1 q)

short_left : (us vs : List Window) → Short (us ++ vs) → Short us
short_left [] vs p = tt
short_left (u ∷ us) vs p = (p.0, short_left us vs p.1)

short_right : (us vs : List Window) → Short (us ++ vs) → Short vs
short_right [] vs p = p
short_right (u ∷ us) vs p = short_right us vs p.1

chosen_short : (s : Settings) (addresses : List (List ℕ)) → length (selected (terms_of s) addresses) ≤ 8
chosen_short s addresses = (selection_limits (terms_of s) addresses).0.total

-- ---- a round for each window

-- whether a stage has a window or may get one
abbrev slot : Stage → ℕ
slot (handshaking end) = 0
slot (asking x) = 1
slot (within w) = 1
slot over = 0

-- no window before the upgrade is armed
abbrev cap : Stage → ℕ → ℕ
cap (handshaking end) r = 0
cap (asking x) r = r
cap (within w) r = r
cap over r = r

current_slot : (g : Stage) → length (current g) ≤ slot g
current_slot (handshaking end) = omega arith
current_slot (asking x) = omega arith
current_slot (within w) = omega arith
current_slot over = omega arith

cap_le : (g : Stage) (r : ℕ) → cap g r ≤ r
cap_le (handshaking end) r = omega arith
cap_le (asking x) r = omega arith
cap_le (within w) r = omega arith
cap_le over r = omega arith

record Fine (b : Book) : Type 0 where
  most : b.rounds ≤ 3
  room : length b.past + slot b.stage ≤ cap b.stage b.rounds
  short : Short (windows b)

windows_le : (b : Book) → Fine b → length (windows b) ≤ b.rounds
windows_le b f =
    omega (arith, f.room, current_slot b.stage, cap_le b.stage b.rounds, length-append b.past (current b.stage))

-- ---- steps

module _ (b : Book) (most : b.rounds ≤ 3) (le : length (windows b) ≤ b.rounds) (short : Short (windows b)) where
  closing_fine : Fine (closed b)
  closing_fine = record { most = most; room = omega arith; short = rw (append-nil (windows b)) short }

  wanting_fine : (s : Settings) (who : Who) (h : Host) (own : List ℕ) → Fine (wanted s who h own b)
  wanting_fine s who h own = go (is_circuit who h.live) (ltb b.rounds 3) refl (ltb h.at b.deadline) h.offer
    where
      go : (x y : Bool) → ltb b.rounds 3 ≡ y → (z : Bool) (o : Option (ConnectionId × StreamId)) → Fine (pick (both x (both y z)) (begins s h own b o) (closed b))
      go true true e true None = closing_fine
      go true true e true (Some (conn, stream)) =
          record { most = omega (arith, ltb-true b.rounds 3 e); room = omega arith; short = rw (append-nil (windows b)) short }
      go true true e false o = closing_fine
      go true false e z o = closing_fine
      go false y e z o = closing_fine

closed_fine : (b : Book) → Fine b → Fine (closed b)
closed_fine b f = closing_fine b f.most (windows_le b f) f.short

wanted_fine : (s : Settings) (who : Who) (h : Host) (own : List ℕ) (b : Book) → Fine b → Fine (wanted s who h own b)
wanted_fine s who h own b f = wanting_fine b f.most (windows_le b f) f.short s who h own

closed_if : (t : Bool) (b : Book) → Fine b → Fine (pick t (closed b) b)
closed_if true b f = closed_fine b f
closed_if false b f = f

module _ (s : Settings) (who : Who) (h : Host) (own : List ℕ) (deadline rounds : ℕ) (past : List Window) where
  abbrev at : Stage → Book
  at g = record { stage = g; deadline = deadline; rounds = rounds; past = past }

  seen_fine : (w : Window) → Fine (at (within w)) → Fine (at (within (seen h.at w)))
  seen_fine w f =
      record {
        most = f.most;
        room = f.room;
        short = short_append past (seen h.at w ∷ []) (short_left past (w ∷ []) f.short) ((short_right past (w ∷ []) f.short).0, tt);
      }

  tick_fine : (g : Stage) → Fine (at g) → Fine (tick_in s who h own (at g) g)
  tick_fine (handshaking end) f = go (ltb h.at end)
    where
      go : (t : Bool) → Fine (pick t (at (handshaking end)) (closed (at (handshaking end))))
      go true = f
      go false = closed_fine (at (handshaking end)) f
  tick_fine (asking x) f = go (ltb h.at deadline) (ltb h.at x.end)
    where
      go : (t u : Bool) → Fine (pick t (pick u (at (asking x)) (wanted s who h own (at (asking x)))) (closed (at (asking x))))
      go true true = f
      go true false = wanted_fine s who h own (at (asking x)) f
      go false u = closed_fine (at (asking x)) f
  tick_fine (within w) f = go (ltb h.at deadline) (ltb h.at w.end)
    where
      go : (t u : Bool)
          → Fine (pick t (pick u (at (within (seen h.at w))) (wanted s who h own (at (within (seen h.at w))))) (closed (at (within w))))
      go true true = seen_fine w f
      go true false = wanted_fine s who h own (at (within (seen h.at w))) (seen_fine w f)
      go false u = closed_fine (at (within w)) f
  tick_fine over f = f

  up_fine : (relayed : Bool) (conn : ConnectionId) (g : Stage) → Fine (at g) → Fine (up_in s who h own relayed conn (at g) g)
  up_fine true conn (handshaking end) f = go (eqb conn.0 who.circuit.0) s.upgrades
    where
      b : Book
      b = at (handshaking end)

      go : (x y : Bool) → Fine (pick x (pick y (wanted s who h own (armed s h b)) (closed b)) b)
      go true true = wanting_fine (armed s h b) (omega arith) (omega (arith, f.room, length-append past [])) f.short s who h own
      go true false = closed_fine b f
      go false y = f
  up_fine false conn (handshaking end) f = closed_fine (at (handshaking end)) f
  up_fine true conn (asking x) f = f
  up_fine false conn (asking x) f = closed_fine (at (asking x)) f
  up_fine true conn (within w) f = f
  up_fine false conn (within w) f = closed_fine (at (within w)) f
  up_fine relayed conn over f = f

  module _ (x : Asking) (f : Fine (at (asking x))) where
    -- the exchange goes on
    on_fine : (y : Asking) → Fine (at (asking y))
    on_fine y = record { most = f.most; room = f.room; short = f.short }

    replied_fine : (y : Brought) → Fine (replied s who h own (at (asking x)) x y)
    replied_fine (unfinished n) = on_fine (with_count x n)
    replied_fine failed = wanted_fine s who h own (at (asking x)) f
    replied_fine (connect addresses) =
        record {
          most = f.most;
          room = f.room;
          short = short_append past
              (opened s deadline h.at (trip_of x.connect h.at) (selected (terms_of s) addresses) ∷ [])
              (short_left past [] f.short) (chosen_short s addresses, tt);
        }

    answered_fine : (buffer : List ℕ) (kind : StreamInput) (bytes : List ℕ) → Fine (answered_by s who h own buffer kind bytes (at (asking x)) x)
    answered_fine buffer i.Ready bytes = f
    answered_fine buffer i.Data bytes = replied_fine (heard bytes buffer x.count)
    answered_fine buffer i.RemoteWriteClosed bytes = wanted_fine s who h own (at (asking x)) f
    answered_fine buffer i.Closed bytes = wanted_fine s who h own (at (asking x)) f

    to_fine : (buffer : List ℕ) (kind : StreamInput) (bytes : List ℕ) (pending : Bool) (c : ConnectWrite)
        → Fine (input_to s who h own buffer kind bytes pending (at (asking x)) x c)
    to_fine buffer kind bytes pending Unsent = go (is_closing kind)
      where
        go : (t : Bool)
            → Fine (pick t (wanted s who h own (at (asking x))) (at (asking (with_connect x (pick pending Held (Sent h.at))))))
        go true = wanted_fine s who h own (at (asking x)) f
        go false = on_fine (with_connect x (pick pending Held (Sent h.at)))
    to_fine buffer kind bytes pending Held = answered_fine buffer kind bytes
    to_fine buffer kind bytes pending (Sent t) = answered_fine buffer kind bytes

  input_fine : (buffer : List ℕ) (stream : StreamId) (kind : StreamInput) (bytes : List ℕ) (pending : Bool) (g : Stage) → Fine (at g)
      → Fine (input_in s who h own buffer stream kind bytes pending (at g) g)
  input_fine buffer stream kind bytes pending (handshaking end) f = f
  input_fine buffer stream kind bytes pending (asking x) f = go (eqb x.stream.0 stream.0) (ltb h.at x.end)
    where
      b : Book
      b = at (asking x)

      go : (t u : Bool) → Fine (pick t (pick u (input_to s who h own buffer kind bytes pending b x x.connect)
          (tick_in s who h own b (asking x))) b)
      go true true = to_fine x f buffer kind bytes pending x.connect
      go true false = tick_fine (asking x) f
      go false u = f
  input_fine buffer stream kind bytes pending (within w) f = f
  input_fine buffer stream kind bytes pending over f = f

wrote_fine : (at : ℕ) (conn : ConnectionId) (stream : StreamId) (b : Book) (g : Stage) → b.stage ≡ g → Fine b → Fine (wrote_in at conn stream b g)
wrote_fine at conn stream b (handshaking end) e f = f
wrote_fine at conn stream b (asking x) e f = go (both (eqb x.conn.0 conn.0) (eqb x.stream.0 stream.0)) x.connect
  where
    go : (t : Bool) (c : ConnectWrite) → Fine (pick t (wrote_to at b x c) b)
    go true Unsent = f
    go true Held = record { most = f.most; room = rw e at f.room; short = rw e at f.short }
    go true (Sent t) = f
    go false c = f
wrote_fine at conn stream b (within w) e f = f
wrote_fine at conn stream b over e f = f

note_fine : (s : Settings) (who : Who) (b : Book) (x : Call) → Fine b → Fine (note s who b x)
unfolding note
note_fine s who b (up l h own peer conn relayed) f = go (eqb peer.0 who.source.0)
  where
    go : (t : Bool) → Fine (pick t (up_in s who h own relayed conn b b.stage) b)
    go true = up_fine s who h own b.deadline b.rounds b.past relayed conn b.stage f
    go false = f
note_fine s who b (input l buffer h own stream kind bytes pending) f =
    input_fine s who h own b.deadline b.rounds b.past buffer stream kind bytes pending b.stage f
note_fine s who b (tick l h own) f = tick_fine s who h own b.deadline b.rounds b.past b.stage f
note_fine s who b (wrote at conn stream) f = wrote_fine at conn stream b b.stage refl f
note_fine s who b (down at peer conn) f = closed_if (eqb conn.0 who.circuit.0) b f

notes_fine : (s : Settings) (who : Who) (xs : List Call) (rs : List Bool) (b : Book) → Fine b → Fine (notes s who b xs rs)
unfolding notes
notes_fine s who [] rs b f = f
notes_fine s who (x ∷ xs) [] b f = f
notes_fine s who (x ∷ xs) (true ∷ rs) b f = notes_fine s who xs rs b f
notes_fine s who (x ∷ xs) (false ∷ rs) b f = notes_fine s who xs rs (note s who b x) (note_fine s who b x f)

-- ---- counting

length_copies : {A : Type 0} (n : ℕ) (l : List A) → length (copies n l) ≡ n * length l
unfolding copies
length_copies zero l = omega arith
length_copies (suc n) l = omega (arith, length-append l (copies n l), length_copies n l)

length_each : (payload : ℕ) (l : List (List ℕ)) → length (to_each payload l) ≡ length l
unfolding to_each
length_each payload [] = refl
length_each payload (t ∷ ts) = omega (arith, length_each payload ts)

div_mono : (a b n : ℕ) → 0 < n → a ≤ b → a / n ≤ b / n
div_mono a b n p h = (le-div_iff_mul-le p).1 (le_trans (div-mul-le_self a n) h)

-- one window, no longer than m
window_le : (s : Settings) (m : ℕ) (w : Window) → w.end - w.start ≤ m → length w.list ≤ 8
    → length (of_window s w) ≤ 8 * (1 + m / max s.interval 1)
window_le s m w h l =
    let n : ℕ = counted s.interval w.start w.end w.trip w.largest in
    let a : n ≤ 1 + m / max s.interval 1
    = omega (arith, counted_le s.interval w.start w.end w.trip w.largest, div_mono (w.end - w.start) m (max s.interval 1) (omega arith) h) in
    let p : n * length w.list ≤ (1 + m / max s.interval 1) * 8 = mul-le-mul a l in
    rw (length_copies n (to_each s.payload w.list), length_each s.payload w.list) (omega (arith, p))

windows_sum : (s : Settings) (m : ℕ) (ws : List Window) → longest ws ≤ m → Short ws
    → length (due s ws) ≤ length ws * (8 * (1 + m / max s.interval 1))
unfolding due longest
windows_sum s m [] h p = omega arith
windows_sum s m (w ∷ ws) h p =
    let a : length (of_window s w) ≤ 8 * (1 + m / max s.interval 1) = window_le s m w (omega arith) p.0 in
    let r : length (due s ws) ≤ length ws * (8 * (1 + m / max s.interval 1)) = windows_sum s m ws (omega arith) p.1 in
    omega (arith, length-append (of_window s w) (due s ws))

fine_bound : (s : Settings) (b : Book) → Fine b → length (due s (windows b)) ≤ 24 * (1 + longest (windows b) / max s.interval 1)
fine_bound s b f =
    let m : ℕ = longest (windows b) in
    let n : length (windows b) ≤ 3 = omega (arith, windows_le b f, f.most) in
    let k : length (windows b) * (8 * (1 + m / max s.interval 1)) ≤ 3 * (8 * (1 + m / max s.interval 1))
    = mul-le-mul_right (8 * (1 + m / max s.interval 1)) n in
    omega (arith, windows_sum s m (windows b) (omega arith) f.short)

pub bound : (source relay : PeerId) (circuit : ConnectionId) (s : Settings) (at : ℕ) (xs : List Call)
    → length (due s (windows_of source relay circuit s at xs))
    ≤ most s (windows_of source relay circuit s at xs)
unfolding windows_of
bound source relay circuit s at xs =
    fine_bound s (notes s who (fresh s at) xs (refusals (begun source relay circuit s at) xs))
    (notes_fine s who xs (refusals (begun source relay circuit s at) xs) (fresh s at) (fresh_fine (ltb last (at + s.handshake))))
  where
    fresh_fine : (t : Bool) → Fine (record { stage = pick t over (handshaking (at + s.handshake)); deadline = 0; rounds = 0; past = [] })
    fresh_fine true = record { most = omega arith; room = omega arith; short = tt }
    fresh_fine false = record { most = omega arith; room = omega arith; short = tt }

    who : Who
    who = record { source = source; relay = relay; circuit = circuit }
