-- What an accepted input answers is what the book tells of it.
-- Assumes nothing.
use mathlib.Core.Path.{◌≡◌, refl, ap}
use mathlib.Core.Bool.{Bool, true, false}
use mathlib.Core.List.{List, [], ◌∷◌, ◌++◌}
use Prim.Native.Nat.{ℕ, ◌≤◌, ◌<◌}
use native.Mathlib.Omega.{arith}
use borrow.Author.Tests.{ltb-true, ltb-false, eqb-true}
use lib.Dec.{ltb, eqb}
use Rattle.std.specs.Prelude.{None, Some}
use Rattle.prelude.specs.Choice.{pick, either}
use Rattle.time.specs.Time.{last, plus}
use Rattle.ids.specs.declared.ConnectionId.{ConnectionId}
use Rattle.ids.specs.declared.StreamId.{StreamId}
use Rattle.refusal.specs.declared.Refusal.TheVariants.{LedgerFull}
use Rattle.budget.specs.declared.UpgradeBudget.{UpgradeBudget}
use Rattle.budget.specs.Budget.{due_at}
use Rattle.schedule.specs.Instants.{start_of, half_of}
use Rattle.schedule.specs.Schedule.{opened_of}
use Rattle.schedule.proofs.Readings.{first_with_reply}
use Rattle.candidates.specs.Selection.{Chosen}
use Rattle.candidates.specs.Selection.{selected}
use Rattle.message.specs.Encoding.{address_fields}
use Rattle.wire.specs.Varint.{groups}
use Rattle.frames.specs.Sent.{Framed}
use Rattle.frames.specs.Sent.{sync_frame}
use Rattle.ledger.specs.Ledger.{PathLedger, refuses_punches}
use Rattle.vocabulary.specs.declared.Settings.{Settings}
use Rattle.circuit.specs.declared.state.Core.{Core}
use Rattle.circuit.specs.declared.state.Phase.{Phase}
use Rattle.circuit.specs.declared.state.Phase.TheVariants.{Exchange}
use Rattle.circuit.specs.declared.state.ConnectWrite.{ConnectWrite}
use Rattle.circuit.specs.declared.state.ConnectWrite.TheVariants.{Unsent, Held, Sent}
use Rattle.vocabulary.specs.declared.StreamInput.{StreamInput}
use Rattle.vocabulary.specs.declared.StreamInput.TheVariants as i
use Rattle.vocabulary.specs.declared.Host.{Host}
use Rattle.circuit.specs.declared.decision.Said.{Said}
use Rattle.inputs.specs.declared.Running.{Running}
use Rattle.vocabulary.specs.declared.Effect.TheVariants.{Burst}
use Rattle.circuit.specs.Decisions.{silence, event_of, reset_of, burst_of, sending_of, decided_of, quiet_of, refused_of}
use Rattle.circuit.specs.declared.decision.Fate.TheVariants.{Kept}
use Rattle.circuit.specs.declared.decision.Message.TheVariants.{Connect, Sync}
use Rattle.lent.specs.declared.reply.Peeked.{Peeked}
use Rattle.carried.specs.Carried.{message_of}
use Rattle.lent.specs.Calls.{peeked, hearing}
use Rattle.lent.specs.Brought.{Brought, unfinished, failed, connect, brought_by}
use Rattle.rounds.specs.Rounds.{fail_round}
use Rattle.upgrade.specs.Ticks.{tick_exchange}
use Rattle.inputs.specs.Inputs.{closing, in_exchange, write_of, first_input, open_window, replied, later_input, timely_input, in_time, exchange_input}
use Rattle.circuit.specs.State.{terms_of, in_phase, punching_of}
use Rattle.lent.specs.Replies.{targets_from, peeked_of}
use Rattle.history.specs.Book.{Window, Asking, Stage, asking, Book, is_closing, trip_of, opened}
use Rattle.history.specs.Tells.{Says, burst, send, reset, only, nothing, wants, is_none, blast, tick_tells, sync, replied_tells, later_tells, timely_tells, input_tells}
use Rattle.history.specs.Tells as told
use Rattle.history.specs.Answers.{bytes_of, said_in}
use Rattle.history.proofs.Made.{made}
use Rattle.history.proofs.Datagrams.{list_of}
use Rattle.history.proofs.Heard.{heard_same}
use Rattle.history.proofs.Relation.{Begun, whose, core_of, book_of, asking_of, InExchange, Together, in_handshake, in_exchange_lem, in_window, at_end}
use Rattle.history.proofs.Tick.{runs_on, runs_out}
use Rattle.history.proofs.Input.{closing_same, window_same, list_same, bare_same}
use Rattle.history.proofs.Told.{Follows, Speaks, reset_speaks, says_follows, expects_follows, quiet_follows, refused_follows, fail_follows, exchange_follows}

-- SYNC's bytes
sync_bytes : bytes_of sync_frame ≡ sync
unfolding sync_frame groups address_fields
sync_bytes = refl

-- at round trip 0 one instant is due with the reply, and else none
reply_times : (s : Settings) (deadline at trip : ℕ) (list : List (List ℕ)) → at ≤ last → at ≤ deadline
    → (opened_of (opened s deadline at trip list).start (opened s deadline at trip list).end s.interval trip).times ≡ pick (eqb trip 0) 1 0
unfolding opened_of start_of half_of plus
reply_times s deadline at trip list r n = go (eqb trip 0) refl
  where
    go : (v : Bool) → eqb trip 0 ≡ v
        → (opened_of (opened s deadline at trip list).start (opened s deadline at trip list).end s.interval trip).times ≡ pick v 1 0
    go true e =
        let z : trip ≡ 0 = eqb-true trip 0 e in
        let f : (opened s deadline at 0 list).start ≤ (opened s deadline at 0 list).end = omega arith in
        rw z (first_with_reply (opened s deadline at 0 list).start (opened s deadline at 0 list).end s.interval f).one
    go false e = rw e

-- a message behind nothing, and the reset where the exchange is over
sending_speaks : (m : Framed) (targets : List (List ℕ)) (conn : ConnectionId) (stream : StreamId) (over : Bool) (d : List Says)
    → pick over (reset conn stream ∷ []) [] ≡ d
    → Speaks m targets (sending_of silence conn stream (Some (Connect m.len)) over) (send conn stream (bytes_of m) ∷ d)
unfolding sending_of silence event_of message_of
sending_speaks m targets conn stream true d e = ap (λ (x : List Says). send conn stream (bytes_of m) ∷ x) e
sending_speaks m targets conn stream false d e = ap (λ (x : List Says). send conn stream (bytes_of m) ∷ x) e

module _ (k : Begun) (g : UpgradeBudget) (m : Framed) (t : Chosen) (l : PathLedger) (h : Host) (own : List ℕ)
    (deadline rounds : ℕ) (past : List Window) (conn : ConnectionId) (stream : StreamId) (end count : ℕ) (write : ConnectWrite)
    (x : InExchange k.settings g deadline rounds end) where
  abbrev c : Core
  c = core_of k (Exchange conn stream count write) g m.len t.len

  abbrev ask : Asking
  ask = asking_of conn stream end count write (bytes_of m)

  abbrev b : Book
  b = book_of (asking ask) deadline rounds past

  abbrev running : Running
  running = record { conn = conn; stream = stream; count = count; connect = write }

  again : (chosen : Chosen)
      → Follows k.source l (made m t own chosen (fail_round c h (reset_of conn stream))) (wants (whose k) h b (reset conn stream ∷ []))
  again chosen =
      fail_follows k (Exchange conn stream count write) g m t l h own chosen (reset_of conn stream) (reset conn stream ∷ []) b x.limits
      (reset_speaks m (list_of t) conn stream)

  -- ---- a CONNECT

  -- a burst, SYNC and the reset
  burst_sync : (times : ℕ) (targets : Chosen) (list : List (List ℕ)) → list_of targets ≡ list → eqb targets.len 0 ≡ is_none list
      → Speaks m (list_of targets) (sending_of (burst_of times k.settings.payload targets.len) conn stream (Some Sync) true)
      (blast k.settings times list ++ (send conn stream sync ∷ reset conn stream ∷ []))
  unfolding sending_of burst_of silence event_of message_of
  burst_sync times targets list e n = rw (n, sync_bytes) (go (either (eqb times 0) (is_none list)))
    where
      go : (v : Bool)
          → said_in sync_frame (list_of targets) (pick {A = Said} v silence (event_of (Some (Burst times k.settings.payload)) None)).first
          ++ (send conn stream sync ∷ reset conn stream ∷ [])
          ≡ pick v [] (burst times k.settings.payload list ∷ []) ++ (send conn stream sync ∷ reset conn stream ∷ [])
      go true = refl
      go false = ap (λ (y : List (List ℕ)). burst times k.settings.payload y ∷ send conn stream sync ∷ reset conn stream ∷ []) e

  reply_follows : h.at < end → (list : List (List ℕ)) (targets : Chosen) → list_of targets ≡ list → eqb targets.len 0 ≡ is_none list
      → refuses_punches l k.source ≡ false → Follows k.source l (made m t own targets (open_window c h.at running targets.len))
      (record {
        said = blast k.settings (pick (eqb (trip_of write h.at) 0) 1 0) list ++ (send conn stream sync ∷ reset conn stream ∷ []);
        lot = told.until deadline;
      })
  unfolding open_window punching_of
  reply_follows n list targets e z f =
      rw (
        window_same k.settings g deadline rounds write h.at list x.limits,
        ← reply_times k.settings deadline h.at (trip_of write h.at) list (omega (arith, x.ends, x.limits.reading)) (omega (arith, x.ends)),
      )
      (expects_follows k.source l m t own targets (punching_of c _ _ _ targets.len) g.deadline deadline x.limits.deadlines _ _
      (burst_sync times targets list e z) f)
    where
      w : Window
      w = opened k.settings deadline h.at (trip_of write h.at) list

      times : ℕ
      times = (opened_of w.start w.end k.settings.interval w.trip).times

  -- ---- what the bytes bring

  abbrev got : Brought → Peeked
  got y = peeked_of (terms_of k.settings) y

  brought_follows : h.at < end → (y : Brought)
      → Follows k.source l
      (made m t own (got y).targets (replied c h running (refuses_punches l k.source) (Some (got y).heard)))
      (replied_tells k.settings (whose k) h b ask y)
  unfolding peeked_of
  brought_follows n (unfinished j) = quiet_follows k.source l m t own _ _
  brought_follows n failed = again _
  brought_follows n (connect addresses) = go (refuses_punches l k.source) refl
    where
      targets : Chosen
      targets = targets_from (terms_of k.settings) addresses

      go : (v : Bool) → refuses_punches l k.source ≡ v
          → Follows k.source l (made m t own targets (pick v (refused_of c LedgerFull) (open_window c h.at running targets.len)))
          (replied_tells k.settings (whose k) h b ask (connect addresses))
      go true f = refused_follows k.source l m t own targets c LedgerFull _
      go false f =
          reply_follows n (selected (terms_of k.settings) addresses) targets
          (list_same k.settings addresses) (bare_same k.settings addresses) f

  module _ (buffer bytes : List ℕ) where
    abbrev peek : Peeked
    peek = got (brought_by bytes buffer count)

    abbrev full : Bool
    full = refuses_punches l k.source

    -- ---- CONNECT has gone out

    later_follows : h.at < end → (kind : StreamInput)
        → Follows k.source l (made m t own peek.targets (later_input c h running (Some peek.heard) full kind))
        (later_tells k.settings (whose k) h buffer kind bytes b ask)
    later_follows n i.Ready = quiet_follows k.source l m t own peek.targets c
    later_follows n i.Data = rw (heard_same bytes buffer count) (brought_follows n (brought_by bytes buffer count))
    later_follows n i.RemoteWriteClosed = again peek.targets
    later_follows n i.Closed = again peek.targets

    -- ---- CONNECT goes out

    first_follows : (kind : StreamInput) (pending : Bool)
        → Follows k.source l (made m t own peek.targets (first_input c h running (closing kind) pending))
        (pick (is_closing kind) (wants (whose k) h b (send conn stream (bytes_of m) ∷ reset conn stream ∷ []))
        (only (send conn stream (bytes_of m) ∷ [])))
    unfolding first_input in_exchange in_phase
    first_follows kind pending = rw (closing_same kind) (go (is_closing kind))
      where
        go : (v : Bool)
            → Follows k.source l
            (made m t own peek.targets
            (pick v (fail_round c h (sending_of silence conn stream (Some (Connect m.len)) true))
            (decided_of (in_exchange c running count (write_of pending h.at)) Kept
            (sending_of silence conn stream (Some (Connect m.len)) false) None)))
            (pick v (wants (whose k) h b (send conn stream (bytes_of m) ∷ reset conn stream ∷ [])) (only (send conn stream (bytes_of m) ∷ [])))
        go true =
            fail_follows k (Exchange conn stream count write) g m t l h own peek.targets
            (sending_of silence conn stream (Some (Connect m.len)) true)
            (send conn stream (bytes_of m) ∷ reset conn stream ∷ []) b x.limits
            (sending_speaks m (list_of t) conn stream true (reset conn stream ∷ []) refl)
        go false =
            says_follows k.source l m t own peek.targets (in_exchange c running count (write_of pending h.at))
            (sending_of silence conn stream (Some (Connect m.len)) false) (send conn stream (bytes_of m) ∷ [])
            (sending_speaks m (list_of t) conn stream false [] refl)

    -- ---- in time or not

    to_follows : h.at < end → (kind : StreamInput) (pending : Bool) (v : ConnectWrite)
        → Follows k.source l (made m t own peek.targets (timely_input c h running kind pending (Some peek.heard) full v))
        (timely_tells k.settings (whose k) h buffer kind bytes b ask v)
    to_follows n kind pending Unsent = first_follows kind pending
    to_follows n kind pending Held = later_follows n kind
    to_follows n kind pending (Sent at) = later_follows n kind

    pub timed_follows : (kind : StreamInput) (pending : Bool)
        → Follows k.source l (made m t own peek.targets (exchange_input c h running kind pending (Some peek.heard) full))
        (pick (ltb h.at end) (timely_tells k.settings (whose k) h buffer kind bytes b ask write)
        (tick_tells k.settings (whose k) h b (asking ask)))
    unfolding exchange_input
    timed_follows kind pending = go (ltb h.at end) refl
      where
        tick : Follows k.source l (made m t own peek.targets (tick_exchange c h conn stream))
            (tick_tells k.settings (whose k) h b (asking ask))
        tick = exchange_follows k g m t l h own peek.targets deadline rounds past conn stream end count write x

        go : (v : Bool) → ltb h.at end ≡ v
            → Follows k.source l
            (made m t own peek.targets (in_time c h running kind pending (Some peek.heard) full (due_at g h.at)))
            (pick v (timely_tells k.settings (whose k) h buffer kind bytes b ask write) (tick_tells k.settings (whose k) h b (asking ask)))
        go true e =
            let n : h.at < end = ltb-true h.at end e in
            rw (runs_on k.settings g deadline rounds end h.at x n) (to_follows n kind pending write)
        go false e =
            runs_out k.settings g deadline rounds end h.at x
            (λ y. Follows k.source l (made m t own peek.targets (in_time c h running kind pending (Some peek.heard) full y))
            (tick_tells k.settings (whose k) h b (asking ask)))
            (λ round ms. tick) (λ ms. tick) (ltb-false h.at end e)

-- ---- in any phase

module _ (k : Begun) (g : UpgradeBudget) (m : Framed) (t : Chosen) (l : PathLedger) (h : Host) (own : List ℕ)
    (deadline rounds : ℕ) (past : List Window) (buffer : List ℕ) (stream : StreamId) (kind : StreamInput) (bytes : List ℕ) (pending : Bool) where
  abbrev core : Phase → Core
  core p = core_of k p g m.len t.len

  pub input_follows : (p : Phase) (stage : Stage) → Together k.settings g m t deadline rounds p stage
      → Follows k.source l
      (made m t own (peeked (core p) buffer bytes).targets (hearing (core p) (refuses_punches l k.source) h buffer stream kind bytes pending))
      (input_tells k.settings (whose k) h buffer stream kind bytes (book_of stage deadline rounds past) stage)
  unfolding hearing
  input_follows p stage (in_handshake end) = quiet_follows k.source l m t own _ _
  input_follows p stage (in_exchange_lem conn on end count write x) = go (eqb on.0 stream.0)
    where
      ask : Asking
      ask = asking_of conn on end count write (bytes_of m)

      b : Book
      b = book_of (asking ask) deadline rounds past

      peek : Peeked
      peek = peeked (core p) buffer bytes

      run : Running
      run = record { conn = conn; stream = on; count = count; connect = write }

      go : (v : Bool)
          → Follows k.source l
          (made m t own peek.targets
          (pick v (exchange_input (core p) h run kind pending (Some peek.heard) (refuses_punches l k.source))
          (quiet_of (core p))))
          (pick v
          (pick (ltb h.at end) (timely_tells k.settings (whose k) h buffer kind bytes b ask write)
          (tick_tells k.settings (whose k) h b (asking ask)))
          nothing)
      go true = timed_follows k g m t l h own deadline rounds past conn on end count write x buffer bytes kind pending
      go false = quiet_follows k.source l m t own peek.targets (core p)
  input_follows p stage (in_window closes q w x) = quiet_follows k.source l m t own _ _
  input_follows p stage (at_end promoted) = quiet_follows k.source l m t own _ _
