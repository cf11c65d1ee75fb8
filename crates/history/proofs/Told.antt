-- What an accepted call answers is what the book tells of it: its effects, and the ledger that it leaves.
-- Assumes nothing.
use mathlib.Core.Path.{◌≡◌, refl, sym, ◌∙◌, ap}
use mathlib.Core.Bool.{Bool, true, false}
use mathlib.Core.List.{List, [], ◌∷◌, ◌++◌, append-nil, append_assoc}
use Prim.Native.Nat.{ℕ, ◌≤◌, ◌<◌}
use native.Mathlib.Omega.{arith}
use borrow.Author.Tests.{ltb-true, ltb-false, lt-ltb, le-ltb, le-leb, lt-leb}
use lib.Dec.{ltb, leb, eqb}
use lib.ListN.{take}
use Rattle.std.specs.Prelude.{None, Option, Some}
use Rattle.prelude.specs.Choice.{pick, both, either}
use Rattle.wire.specs.Lists.{entries}
use Rattle.ids.specs.declared.ConnectionId.{ConnectionId}
use Rattle.ids.specs.declared.StreamId.{StreamId}
use Rattle.ids.specs.declared.PeerId.{PeerId}
use Rattle.refusal.specs.declared.Refusal.{Refusal}
use Rattle.budget.specs.declared.UpgradeBudget.{UpgradeBudget}
use Rattle.budget.specs.Budget.{due_at, may_begin}
use Rattle.budget.specs.Budget as budget
use Rattle.schedule.specs.declared.BlastSchedule.{BlastSchedule}
use Rattle.schedule.specs.Schedule.{due_of}
use Rattle.schedule.proofs.Readings.{tick_times, below_fits}
use Rattle.candidates.specs.Selection.{Chosen}
use Rattle.frames.specs.Sent.{Framed}
use Rattle.ledger.specs.Ledger.{PathLedger, refuses_punches, expect_punches}
use Rattle.circuit.specs.declared.state.Core.{Core}
use Rattle.circuit.specs.declared.state.Phase.{Phase}
use Rattle.circuit.specs.declared.state.Phase.TheVariants.{Handshaking, Exchange, Punching, Done}
use Rattle.circuit.specs.declared.state.ConnectWrite.{ConnectWrite}
use Rattle.vocabulary.specs.declared.Host.{Host}
use Rattle.circuit.specs.declared.decision.Said.{Said}
use Rattle.vocabulary.specs.declared.Effect.{Effect}
use Rattle.vocabulary.specs.declared.Effect.TheVariants.{Path, Burst, Upgrade, Close, Reset, Open}
use Rattle.circuit.specs.declared.decision.Decision.{Decision}
use Rattle.inbound.specs.declared.Answer.{Answer}
use Rattle.circuit.specs.declared.decision.Fate.TheVariants.{Kept, Removed, Opened}
use Rattle.circuit.specs.Decisions.{silence, event_of, reset_of, burst_of, decided_of, quiet_of, refused_of}
use Rattle.carried.specs.Carried.{message_of, targets_after, ledger_after}
use Rattle.carried.specs.Carried as carried
use Rattle.circuit.specs.State.{in_phase, done_of, exchanging_of}
use Rattle.rounds.specs.Rounds.{is_live, no_round, open_stream, open_round, fail_round}
use Rattle.upgrade.specs.Ticks.{tick_handshaking, stopped, tick_exchange, due_burst, tick_punching, tick_at}
use Rattle.upgrade.specs.Ups.{upgraded_of, announced, established_at, connected_of, took_of, taking, up_at}
use Rattle.history.specs.Calls.{is_refused}
use Rattle.history.specs.Book.{Window, Stage, handshaking, asking, within, Book, armed}
use Rattle.history.specs.Tells.{Says, path, burst, upgrade, close, reset, opens, removed, Told, only, nothing, opening, wants, is_none, blast, newly, tick_tells, up_tells}
use Rattle.history.specs.Tells as told
use Rattle.history.specs.Answers.{bytes_of, said_in, said_by, leaves, Room}
use Rattle.history.proofs.Made.{made}
use Rattle.history.proofs.Datagrams.{list_of}
use Rattle.history.proofs.Relation.{Begun, whose, core_of, book_of, asking_of, Limits, InExchange, InWindow, Together, in_handshake, in_exchange_lem, in_window, at_end}
use Rattle.history.proofs.Rounds.{live_same, may_same, armed_limits, ended_limits}
use Rattle.history.proofs.Tick.{runs_on, times_out, runs_out}

-- an answer to a call that was lent the ledger l, and what is told of the call
pub record Follows (source : PeerId) (l : PathLedger) (a : Answer) (w : Told) : Type 0 where
  pub effects : said_by a ≡ (pick (is_refused a.outcome) nothing w).said
  pub ledger : ledger_after source l a.window ≡ leaves source l (pick (is_refused a.outcome) nothing w).lot
  pub room : Room source l (pick (is_refused a.outcome) nothing w).lot

-- ---- the kinds of answer

-- what is said before it is known whether a round opens, with the CONNECT and the targets that there are
abbrev pub Speaks : Framed → List (List ℕ) → Said → List Says → Type 0
Speaks m targets s d =
    said_in (message_of m.bytes s.message) targets s.first
    ++ (said_in (message_of m.bytes s.message) targets s.second ++ said_in (message_of m.bytes s.message) targets s.third)
    ≡ d

four : (a b c d : List Says) → a ++ (b ++ (c ++ d)) ≡ (a ++ (b ++ c)) ++ d
four a b c d = ap (λ (x : List Says). a ++ x) (sym (append_assoc b c d)) ∙ sym (append_assoc a (b ++ c) d)

-- a last effect behind it
speaks_all : (m : Framed) (targets : List (List ℕ)) (s : Said) (d e : List Says) → Speaks m targets s d
    → said_in (message_of m.bytes s.message) targets s.first
    ++ (said_in (message_of m.bytes s.message) targets s.second ++ (said_in (message_of m.bytes s.message) targets s.third ++ e))
    ≡ d ++ e
speaks_all m targets s d e h =
    four (said_in (message_of m.bytes s.message) targets s.first) (said_in (message_of m.bytes s.message) targets s.second)
    (said_in (message_of m.bytes s.message) targets s.third) e
    ∙ ap (λ (x : List Says). x ++ e) h

module _ (m : Framed) (targets : List (List ℕ)) where
  pub silence_speaks : Speaks m targets silence []
  unfolding silence event_of
  silence_speaks = refl

  pub reset_speaks : (conn : ConnectionId) (stream : StreamId) → Speaks m targets (reset_of conn stream) (reset conn stream ∷ [])
  unfolding reset_of event_of
  reset_speaks conn stream = refl

module _ (source : PeerId) (l : PathLedger) (m : Framed) (t : Chosen) (own : List ℕ) (chosen : Chosen) (c : Core) where
  pub says_follows : (s : Said) (d : List Says) → Speaks m (entries (take c.targets t.bytes)) s d
      → Follows source l (made m t own chosen (decided_of c Kept s None)) (only d)
  unfolding decided_of carried.opens targets_after ledger_after
  says_follows s d h =
      record { effects = speaks_all m (entries (take c.targets t.bytes)) s d [] h ∙ append-nil d; ledger = refl; room = tt }

  pub removes_follows : (s : Said) (d : List Says) → Speaks m (entries (take c.targets t.bytes)) s d
      → Follows source l (made m t own chosen (decided_of c Removed s None)) (record { said = d; lot = removed })
  unfolding decided_of carried.opens targets_after ledger_after
  removes_follows s d h =
      record { effects = speaks_all m (entries (take c.targets t.bytes)) s d [] h ∙ append-nil d; ledger = refl; room = tt }

  pub opens_follows : (s : Said) (d : List Says) (conn : ConnectionId) (stream : StreamId) → Speaks m (entries (take c.targets t.bytes)) s d
      → Follows source l (made m t own chosen (decided_of c Kept s (Some (Open conn stream)))) (only (d ++ (opens conn stream ∷ [])))
  unfolding decided_of carried.opens targets_after ledger_after
  opens_follows s d conn stream h =
      record { effects = speaks_all m (entries (take c.targets t.bytes)) s d (opens conn stream ∷ []) h; ledger = refl; room = tt }

  pub expects_follows : (end until : ℕ) → end ≡ until → (s : Said) (d : List Says) → Speaks m (entries (take c.targets chosen.bytes)) s d
      → refuses_punches l source ≡ false
      → Follows source l (made m t own chosen (decided_of c (Opened end) s None)) (record { said = d; lot = told.until until })
  unfolding decided_of carried.opens targets_after ledger_after
  expects_follows end until e s d h f =
      record {
        effects = speaks_all m (entries (take c.targets chosen.bytes)) s d [] h ∙ append-nil d;
        ledger = ap (λ (n : ℕ). (expect_punches l source n).ledger) e;
        room = f;
      }

  pub quiet_follows : Follows source l (made m t own chosen (quiet_of c)) nothing
  unfolding quiet_of
  quiet_follows = says_follows silence [] (silence_speaks m (entries (take c.targets t.bytes)))

  pub refused_follows : (why : Refusal) (w : Told) → Follows source l (made m t own chosen (refused_of c why)) w
  unfolding refused_of carried.opens targets_after ledger_after
  refused_follows why w = record { effects = refl; ledger = refl; room = tt }

-- whether a connection was taken is no effect
taking_follows : (source : PeerId) (l : PathLedger) (m : Framed) (t : Chosen) (own : List ℕ) (chosen : Chosen) (v : Bool) (d : Decision)
    (w : Told)
    → Follows source l (made m t own chosen d) w → Follows source l (made m t own chosen (taking v d)) w
taking_follows source l m t own chosen v d w f = record { effects = f.effects; ledger = f.ledger; room = f.room }

-- ---- a round is wanted

module _ (k : Begun) (p : Phase) (g₀ g : UpgradeBudget) (m : Framed) (t : Chosen) (l : PathLedger) (h : Host) (own : List ℕ) (chosen : Chosen)
    (said : Said) (d : List Says) (b : Book) (lim : Limits k.settings g b.deadline b.rounds) (speaks : Speaks m (list_of t) said d) where
  abbrev c₀ : Core
  c₀ = core_of k p g₀ m.len t.len

  none_follows : Follows k.source l (made m t own chosen (no_round c₀ said)) (record { said = d; lot = removed })
  unfolding no_round done_of in_phase
  none_follows = removes_follows k.source l m t own chosen (done_of c₀) said d speaks

  offer_follows : (o : Option (ConnectionId × StreamId)) → Follows k.source l (made m t own chosen (open_stream c₀ g h.at said o)) (opening d o)
  unfolding exchanging_of
  offer_follows None = none_follows
  offer_follows (Some (conn, stream)) =
      opens_follows k.source l m t own chosen (exchanging_of c₀ (budget.begun g h.at) conn stream) said d conn stream speaks

  pub round_follows : Follows k.source l (made m t own chosen (open_round c₀ g h said)) (wants (whose k) h b d)
  unfolding open_round
  round_follows =
      rw (← live_same k h.live, ← may_same k.settings g b.deadline b.rounds h.at lim)
      (go (both (is_live k.circuit h.live) (may_begin g h.at)))
    where
      go : (x : Bool)
          → Follows k.source l (made m t own chosen (pick x (open_stream c₀ g h.at said h.offer) (no_round c₀ said)))
          (pick x (opening d h.offer) (record { said = d; lot = removed }))
      go true = offer_follows h.offer
      go false = none_follows

pub fail_follows : (k : Begun) (p : Phase) (g : UpgradeBudget) (m : Framed) (t : Chosen) (l : PathLedger) (h : Host) (own : List ℕ)
    (chosen : Chosen)
    (said : Said) (d : List Says) (b : Book) → Limits k.settings g b.deadline b.rounds → Speaks m (list_of t) said d
    → Follows k.source l (made m t own chosen (fail_round (core_of k p g m.len t.len) h said)) (wants (whose k) h b d)
unfolding fail_round
fail_follows k p g m t l h own chosen said d b lim speaks =
    round_follows k p g (budget.ended g) m t l h own chosen said d b (ended_limits k.settings g b.deadline b.rounds lim) speaks

-- ---- tick, in an exchange

module _ (k : Begun) (g : UpgradeBudget) (m : Framed) (t : Chosen) (l : PathLedger) (h : Host) (own : List ℕ) (chosen : Chosen)
    (deadline rounds : ℕ) (past : List Window)
    (conn : ConnectionId) (stream : StreamId) (end count : ℕ) (connect : ConnectWrite)
    (x : InExchange k.settings g deadline rounds end) where
  abbrev c : Core
  c = core_of k (Exchange conn stream count connect) g m.len t.len

  abbrev b : Book
  b = book_of (asking (asking_of conn stream end count connect (bytes_of m))) deadline rounds past

  over_follows : Follows k.source l (made m t own chosen (decided_of (done_of c) Kept (reset_of conn stream) None))
      (only (reset conn stream ∷ []))
  over_follows =
      says_follows k.source l m t own chosen (done_of c) (reset_of conn stream) (reset conn stream ∷ []) (reset_speaks m _ conn stream)

  pub exchange_follows : Follows k.source l (made m t own chosen (tick_exchange c h conn stream))
      (tick_tells k.settings (whose k) h b (asking (asking_of conn stream end count connect (bytes_of m))))
  unfolding tick_exchange
  exchange_follows = go (ltb h.at deadline) refl (ltb h.at end) refl
    where
      stops : deadline ≤ h.at → Follows k.source l (made m t own chosen (stopped c h conn stream (due_at g h.at)))
          (only (reset conn stream ∷ []))
      stops n =
          runs_out k.settings g deadline rounds end h.at x (λ y. Follows k.source l
          (made m t own chosen (stopped c h conn stream y)) (only (reset conn stream ∷ [])))
          (λ round ms. rw (le-ltb h.at g.deadline (omega (arith, x.limits.deadlines))) over_follows) (λ ms. over_follows) (omega (arith, x.ends))

      go : (y : Bool) → ltb h.at deadline ≡ y → (z : Bool) → ltb h.at end ≡ z
          → Follows k.source l (made m t own chosen (stopped c h conn stream (due_at g h.at)))
          (pick y (pick z nothing (wants (whose k) h b (reset conn stream ∷ []))) (only (reset conn stream ∷ [])))
      go true e true f =
          rw (runs_on k.settings g deadline rounds end h.at x (ltb-true h.at end f)) (quiet_follows k.source l m t own chosen c)
      go true e false f =
          let n : h.at < deadline = ltb-true h.at deadline e in
          rw (times_out k.settings g deadline rounds end h.at x (ltb-false h.at end f) n, lt-ltb h.at g.deadline (omega (arith, x.limits.deadlines)))
          (fail_follows k (Exchange conn stream count connect) g m t l h own chosen (reset_of conn stream) (reset conn stream ∷ []) b x.limits
          (reset_speaks m (list_of t) conn stream))
      go false e z f = stops (ltb-false h.at deadline e)

-- ---- tick, in a window

-- a burst of the list, by the list's own length
pub burst_speaks : (m : Framed) (times payload : ℕ) (t : Chosen) (list : List (List ℕ)) → list_of t ≡ list → eqb t.len 0 ≡ is_none list
    → Speaks m (list_of t) (burst_of times payload t.len) (pick (either (eqb times 0) (is_none list)) [] (burst times payload list ∷ []))
unfolding burst_of event_of
burst_speaks m times payload t list e n = rw n (go (either (eqb times 0) (is_none list)))
  where
    go : (v : Bool)
        → Speaks m (list_of t) (pick v silence (event_of (Some (Burst times payload)) None)) (pick v [] (burst times payload list ∷ []))
    go true = silence_speaks m (list_of t)
    go false = ap (λ (x : List (List ℕ)). burst times payload x ∷ []) e

module _ (k : Begun) (g : UpgradeBudget) (m : Framed) (t : Chosen) (l : PathLedger) (h : Host) (own : List ℕ) (chosen : Chosen)
    (deadline rounds : ℕ) (past : List Window)
    (until : ℕ) (q : BlastSchedule) (w : Window) (x : InWindow k.settings g t deadline rounds until q w) where
  abbrev c₂ : Core
  c₂ = core_of k (Punching until q) g m.len t.len

  abbrev b₂ : Book
  b₂ = book_of (within w) deadline rounds past

  -- what goes out is what the reading adds to the window
  due_speaks : h.at < deadline → Speaks m (list_of t) (due_burst c₂ h q) (blast k.settings (newly k.settings h.at w) w.list)
  due_speaks n =
      let e : newly k.settings h.at w ≡ (due_of q k.settings.interval h.at).times =
      omega (
        arith,
        tick_times k.settings.interval w.start w.end w.trip w.largest q x.stands h.at
            (below_fits w.start k.settings.interval w.end h.at (omega (arith, x.limits.reading))),
      ) in
      rw e (burst_speaks m (due_of q k.settings.interval h.at).times k.settings.payload t w.list x.list x.bare)

  pub window_follows : Follows k.source l (made m t own chosen (tick_punching c₂ h until q)) (tick_tells k.settings (whose k) h b₂ (within w))
  unfolding tick_punching in_phase
  window_follows = rw (ap (ltb h.at) x.closes) (go (ltb h.at deadline) refl)
    where
      d : List Says
      d = blast k.settings (newly k.settings h.at w) w.list

      within_follows : h.at < deadline → (z : Bool)
          → Follows k.source l
          (made m t own chosen
          (pick z
          (decided_of (in_phase c₂ (Punching until (due_of q k.settings.interval h.at).schedule)) Kept (due_burst c₂ h q) None)
          (open_round c₂ g h (due_burst c₂ h q))))
          (pick z (only d) (wants (whose k) h b₂ d))
      within_follows n true = says_follows k.source l m t own chosen (in_phase c₂ _) (due_burst c₂ h q) d (due_speaks n)
      within_follows n false = round_follows k (Punching until q) g g m t l h own chosen (due_burst c₂ h q) d b₂ x.limits (due_speaks n)

      go : (y : Bool) → ltb h.at deadline ≡ y
          → Follows k.source l
          (made m t own chosen
          (pick (leb g.deadline h.at) (quiet_of (done_of c₂))
          (pick (ltb h.at w.end)
          (decided_of (in_phase c₂ (Punching until (due_of q k.settings.interval h.at).schedule)) Kept (due_burst c₂ h q) None)
          (open_round c₂ g h (due_burst c₂ h q)))))
          (pick y (pick (ltb h.at w.end) (only d) (wants (whose k) h b₂ d)) nothing)
      go true e =
          let n : h.at < deadline = ltb-true h.at deadline e in
          rw (lt-leb g.deadline h.at (omega (arith, x.limits.deadlines))) (within_follows n (ltb h.at w.end))
      go false e =
          let n : deadline ≤ h.at = ltb-false h.at deadline e in
          rw (le-leb g.deadline h.at (omega (arith, x.limits.deadlines))) (quiet_follows k.source l m t own chosen (done_of c₂))

-- ---- tick and up, in any phase

module _ (k : Begun) (g : UpgradeBudget) (m : Framed) (t : Chosen) (l : PathLedger) (h : Host) (own : List ℕ) (chosen : Chosen)
    (deadline rounds : ℕ) (past : List Window) where
  pub tick_follows : (p : Phase) (stage : Stage) → Together k.settings g m t deadline rounds p stage
      → Follows k.source l (made m t own chosen (tick_at (core_of k p g m.len t.len) h p))
      (tick_tells k.settings (whose k) h (book_of stage deadline rounds past) stage)
  unfolding tick_handshaking event_of
  tick_follows p stage (in_handshake end) = go (ltb h.at end)
    where
      c : Core
      c = core_of k (Handshaking end) g m.len t.len

      go : (y : Bool)
          → Follows k.source l (made m t own chosen (pick y (quiet_of c) (decided_of (in_phase c (Done false)) Kept
          (event_of (Some (Close k.circuit)) None) None)))
          (pick y nothing (only (close k.circuit ∷ [])))
      go true = quiet_follows k.source l m t own chosen c
      go false = says_follows k.source l m t own chosen (in_phase c (Done false)) (event_of (Some (Close k.circuit)) None)
          (close k.circuit ∷ []) refl
  tick_follows p stage (in_exchange_lem conn stream end count connect x) =
      exchange_follows k g m t l h own chosen deadline rounds past conn stream end count connect x
  tick_follows p stage (in_window until q w x) = window_follows k g m t l h own chosen deadline rounds past until q w x
  tick_follows p stage (at_end promoted) = quiet_follows k.source l m t own chosen (core_of k (Done promoted) g m.len t.len)

  -- a direct connection
  direct_follows : (p : Phase) (conn : ConnectionId) (third : Option Effect) (d : List Says)
      → said_in (message_of m.bytes None) (list_of t) third ≡ d
      → Follows k.source l (made m t own chosen (upgraded_of (core_of k p g m.len t.len) conn third))
      (only (upgrade k.source k.circuit conn ∷ d))
  unfolding upgraded_of event_of done_of in_phase
  direct_follows p conn third d e =
      says_follows k.source l m t own chosen (done_of (core_of k p g m.len t.len)) (event_of (Some (Upgrade k.source k.circuit conn)) third)
      (upgrade k.source k.circuit conn ∷ d) (ap (λ (x : List Says). upgrade k.source k.circuit conn ∷ x) e)

  -- the circuit comes up
  came_follows : (end : ℕ)
      → Follows k.source l (made m t own chosen (announced (core_of k (Handshaking end) g m.len t.len) h))
      (pick k.settings.upgrades
      (wants (whose k) h (armed k.settings h (book_of (handshaking end) deadline rounds past)) (path k.source k.relay k.circuit ∷ []))
      (only (path k.source k.relay k.circuit ∷ [])))
  unfolding announced event_of
  came_follows end = go k.settings.upgrades
    where
      b : Book
      b = book_of (handshaking end) deadline rounds past

      c : Core
      c = core_of k (Handshaking end) g m.len t.len

      came : Said
      came = event_of (Some (Path k.source k.relay k.circuit)) None

      d : List Says
      d = path k.source k.relay k.circuit ∷ []

      go : (v : Bool)
          → Follows k.source l
          (made m t own chosen
          (pick v
          (open_round c (budget.armed h.at k.settings.upgrade k.settings.exchange k.settings.punch) h came)
          (decided_of (done_of c) Kept came None)))
          (pick v (wants (whose k) h (armed k.settings h b) d) (only d))
      go true =
          round_follows k (Handshaking end) g (budget.armed h.at k.settings.upgrade k.settings.exchange
          k.settings.punch) m t l h own chosen came d
          (armed k.settings h b) (armed_limits k.settings h.at) refl
      go false = says_follows k.source l m t own chosen (done_of c) came d refl

  source_follows : (conn : ConnectionId) (relayed : Bool) (p : Phase) (stage : Stage) → Together k.settings g m t deadline rounds p stage
      → Follows k.source l (made m t own chosen (established_at (core_of k p g m.len t.len) h conn relayed p))
      (up_tells k.settings (whose k) h relayed conn (book_of stage deadline rounds past) stage)
  source_follows conn true p stage (in_handshake end) = go (eqb conn.0 k.circuit.0)
    where
      c : Core
      c = core_of k (Handshaking end) g m.len t.len

      d : List Says
      d = path k.source k.relay k.circuit ∷ []

      go : (v : Bool)
          → Follows k.source l (made m t own chosen (pick v (announced c h) (quiet_of c)))
          (pick v (pick k.settings.upgrades (wants (whose k) h (armed k.settings h (book_of (handshaking end) deadline rounds past)) d) (only d)) nothing)
      go true = came_follows end
      go false = quiet_follows k.source l m t own chosen c
  source_follows conn false p stage (in_handshake end) = direct_follows p conn None [] refl
  source_follows conn true p stage (in_exchange_lem on stream end count connect x) = quiet_follows k.source l m t own chosen _
  source_follows conn false p stage (in_exchange_lem on stream end count connect x) = direct_follows p conn (Some (Reset on stream)) (reset on stream ∷ []) refl
  source_follows conn true p stage (in_window until q w x) = quiet_follows k.source l m t own chosen _
  source_follows conn false p stage (in_window until q w x) = direct_follows p conn None [] refl
  source_follows conn relayed p stage (at_end promoted) = quiet_follows k.source l m t own chosen _

  pub up_follows : (peer : PeerId) (conn : ConnectionId) (relayed : Bool) (p : Phase) (stage : Stage) → Together k.settings g m t deadline rounds p stage
      → Follows k.source l (made m t own chosen (up_at (core_of k p g m.len t.len) h peer conn relayed))
      (pick (eqb peer.0 k.source.0) (up_tells k.settings (whose k) h relayed conn (book_of stage deadline rounds past) stage) nothing)
  unfolding up_at connected_of
  up_follows peer conn relayed p stage r =
      taking_follows k.source l m t own chosen (took_of (core_of k p g m.len t.len) peer conn relayed) _ _
      (go (eqb peer.0 k.source.0))
    where
      go : (v : Bool)
          → Follows k.source l
          (made m t own chosen (pick v (established_at (core_of k p g m.len t.len) h conn relayed p)
          (quiet_of (core_of k p g m.len t.len))))
          (pick v (up_tells k.settings (whose k) h relayed conn (book_of stage deadline rounds past) stage) nothing)
      go true = source_follows conn relayed p stage r
      go false = quiet_follows k.source l m t own chosen (core_of k p g m.len t.len)
