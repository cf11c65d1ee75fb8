-- A circuit is promoted just where its start was accepted and its handshake did not run out.
-- Assumes nothing.
use mathlib.Core.Path.{◌≡◌, refl, sym, ap, ◌∙◌, subst}
use mathlib.Core.Bool.{Bool, true, false}
use mathlib.Core.List.{List, [], ◌∷◌}
use Prim.Native.Nat.{ℕ, ◌+◌}
use lib.Dec.{ltb, leb, eqb}
use lib.ListN.{length}
use Rattle.std.specs.Prelude.{Err, None, Ok, Option, Result, Some, ⊤}
use Rattle.prelude.specs.Choice.{pick, both, either, no}
use Rattle.time.specs.Time.{last}
use Rattle.ids.specs.declared.PeerId.{PeerId}
use Rattle.ids.specs.declared.ConnectionId.{ConnectionId}
use Rattle.ids.specs.declared.StreamId.{StreamId}
use Rattle.refusal.specs.declared.Refusal.TheVariants.{ReplyBufferTooShort, LedgerFull, HandshakeTooLate}
use Rattle.budget.specs.declared.UpgradeBudget.{UpgradeBudget}
use Rattle.budget.specs.declared.UpgradeStop.{UpgradeStop}
use Rattle.budget.specs.declared.UpgradeStop.TheVariants.{ExchangeTimeout, UpgradeTimeout}
use Rattle.budget.specs.Budget.{due_at, may_begin, ended}
use Rattle.budget.specs.Budget as budget
use Rattle.schedule.specs.declared.BlastSchedule.{BlastSchedule}
use Rattle.schedule.specs.Schedule.{due_of}
use Rattle.candidates.specs.Selection.{Chosen}
use Rattle.frames.specs.Sent.{Framed}
use Rattle.ledger.specs.Ledger.{refuses_punches}
use Rattle.vocabulary.specs.declared.Settings.{Settings}
use Rattle.vocabulary.specs.declared.StreamInput.{StreamInput}
use Rattle.vocabulary.specs.declared.StreamInput.TheVariants as i
use Rattle.vocabulary.specs.declared.Host.{Host}
use Rattle.vocabulary.specs.declared.Effect.{Effect}
use Rattle.vocabulary.specs.declared.Effect.TheVariants as e
use Rattle.circuit.specs.declared.state.Core.{Core}
use Rattle.circuit.specs.declared.state.Phase.{Phase}
use Rattle.circuit.specs.declared.state.Phase.TheVariants.{Handshaking, Exchange, Punching, Done}
use Rattle.circuit.specs.declared.state.ConnectWrite.{ConnectWrite}
use Rattle.circuit.specs.declared.state.ConnectWrite.TheVariants.{Unsent, Held, Sent}
use Rattle.circuit.specs.declared.decision.Said.{Said}
use Rattle.circuit.specs.declared.decision.Fate.TheVariants.{Kept}
use Rattle.circuit.specs.declared.decision.Message.TheVariants.{Connect}
use Rattle.circuit.specs.declared.decision.Decision.{Decision}
use Rattle.inputs.specs.declared.Running.{Running}
use Rattle.inputs.specs.declared.Heard.{Heard}
use Rattle.inputs.specs.declared.Heard.TheVariants as heard
use Rattle.inbound.specs.declared.InboundCircuit.{InboundCircuit}
use Rattle.circuit.specs.State.{in_phase, done_of, exchanging_of, punching_of, is_done}
use Rattle.circuit.specs.Decisions.{silence, event_of, reset_of, sending_of, decided_of, quiet_of, refused_of}
use Rattle.rounds.specs.Rounds.{is_live, no_round, open_stream, open_round, fail_round}
use Rattle.upgrade.specs.Ticks.{tick_handshaking, stopped, tick_exchange, due_burst, tick_punching, tick_at}
use Rattle.upgrade.specs.Ups.{upgraded_of, announced, established_at, connected_of, up_at}
use Rattle.inputs.specs.Inputs.{closing, in_exchange, first_input, open_window, replied, later_input, timely_input, in_time, exchange_input, input_at}
use Rattle.checks.specs.Refusals.{check_of}
use Rattle.circuit.specs.Calls.{begun_of, started_of, unless, wrote_to, wrote_at, wrote_of, down_of}
use Rattle.lent.specs.Calls.{up_in, tick_in, hearing, input_in}
use Rattle.inbound.specs.Circuits.{answer_of, new_answer, wrote_answer, down_answer}
use Rattle.questions.specs.Questions.{promoted}
use Rattle.history.specs.Calls.{Call, up, input, tick, wrote, down, is_refused, step_of}
use Rattle.history.specs.Book.{Stage, Book}
use Rattle.history.specs.Refuses.{refusal, turned, next}
use Rattle.history.specs.Demand3.{begun}
use Rattle.history.specs.Questions.{lapses, lapsed, ran_out, after_all}
use Rattle.history.proofs.Made.{framed_in, chosen_in, up_made, tick_made, input_made}
use Rattle.history.proofs.Relation.{Begun, whose, core_of, circuit_of, Together, in_handshake, in_exchange_lem, in_window, at_end, Rel}
use Rattle.history.proofs.Refuses.{step_turned, next_rel}
use Rattle.refusal.specs.declared.Refusal.{Refusal}

-- a decision leaves such a circuit
abbrev Leaves : Decision → Bool → Type 0
Leaves d v = promoted d.core.phase ≡ v

pick_leaves : (v : Bool) (a b : Decision) (w : Bool) → Leaves a w → Leaves b w → Leaves (pick v a b) w
pick_leaves true a b w h k = h
pick_leaves false a b w h k = k

round_leaves : (c : Core) (g : UpgradeBudget) (h : Host) (s : Said) → Leaves (open_round c g h s) true
unfolding open_round no_round decided_of done_of in_phase exchanging_of
round_leaves c g h s =
    pick_leaves (both (is_live c.circuit h.live) (may_begin g h.at)) (open_stream c g h.at s h.offer) (no_round c s) true
    (go h.offer) refl
  where
    go : (o : Option (ConnectionId × StreamId)) → Leaves (open_stream c g h.at s o) true
    go None = refl
    go (Some (conn, stream)) = refl

fail_leaves : (c : Core) (h : Host) (s : Said) → Leaves (fail_round c h s) true
unfolding fail_round
fail_leaves c h s = round_leaves c (ended c.budget) h s

quiet_leaves : (c : Core) (v : Bool) → promoted c.phase ≡ v → Leaves (quiet_of c) v
unfolding quiet_of decided_of
quiet_leaves c v h = h

module _ (c : Core) (h : Host) (p : promoted c.phase ≡ true) where
  exchange_leaves : (conn : ConnectionId) (stream : StreamId) → Leaves (tick_exchange c h conn stream) true
  unfolding tick_exchange decided_of done_of in_phase
  exchange_leaves conn stream = go (due_at c.budget h.at)
    where
      go : (y : Option UpgradeStop) → Leaves (stopped c h conn stream y) true
      go None = quiet_leaves c true p
      go (Some (ExchangeTimeout round ms)) =
          pick_leaves (ltb h.at c.budget.deadline) (fail_round c h (reset_of conn stream))
          (decided_of (done_of c) Kept (reset_of conn stream) None) true (fail_leaves c h (reset_of conn stream)) refl
      go (Some (UpgradeTimeout ms)) = refl

  window_leaves : (closes : ℕ) (q : BlastSchedule) → Leaves (tick_punching c h closes q) true
  unfolding tick_punching quiet_of decided_of done_of in_phase
  window_leaves closes q =
      pick_leaves (leb c.budget.deadline h.at) (quiet_of (done_of c)) (pick (ltb h.at closes) goes_on
      (open_round c c.budget h (due_burst c h q)))
      true refl
      (pick_leaves (ltb h.at closes) goes_on (open_round c c.budget h (due_burst c h q)) true refl
      (round_leaves c c.budget h (due_burst c h q)))
    where
      goes_on : Decision
      goes_on = decided_of (in_phase c (Punching closes (due_of q c.settings.interval h.at).schedule)) Kept (due_burst c h q) None

  direct_leaves : (conn : ConnectionId) (third : Option Effect) → Leaves (upgraded_of c conn third) true
  unfolding upgraded_of decided_of done_of in_phase
  direct_leaves conn third = refl

  came_leaves : Leaves (announced c h) true
  unfolding announced decided_of done_of in_phase
  came_leaves =
      pick_leaves c.settings.upgrades _ _ true
      (round_leaves c (budget.armed h.at c.settings.upgrade c.settings.exchange c.settings.punch) h
      (event_of (Some (e.Path c.source c.relay c.circuit)) None))
      refl

  -- ---- an input in an exchange

  module _ (x : Running) (full : Bool) where
    heard_leaves : (y : Option Heard) → Leaves (replied c h x full y) true
    unfolding quiet_of decided_of in_exchange in_phase refused_of open_window punching_of
    heard_leaves None = p
    heard_leaves (Some (heard.More n)) = refl
    heard_leaves (Some heard.Failed) = fail_leaves c h (reset_of x.conn x.stream)
    heard_leaves (Some (heard.Connect targets)) = pick_leaves full (refused_of c LedgerFull) (open_window c h.at x targets) true p refl

    later_leaves : (y : Option Heard) (kind : StreamInput) → Leaves (later_input c h x y full kind) true
    later_leaves y i.Ready = quiet_leaves c true p
    later_leaves y i.Data = heard_leaves y
    later_leaves y i.RemoteWriteClosed = fail_leaves c h (reset_of x.conn x.stream)
    later_leaves y i.Closed = fail_leaves c h (reset_of x.conn x.stream)

    first_leaves : (over pending : Bool) → Leaves (first_input c h x over pending) true
    unfolding first_input decided_of in_exchange in_phase
    first_leaves over pending =
        pick_leaves over _ _ true (fail_leaves c h (sending_of silence x.conn x.stream (Some (Connect c.connect)) true)) refl

    timely_leaves : (kind : StreamInput) (pending : Bool) (y : Option Heard) (v : ConnectWrite)
        → Leaves (timely_input c h x kind pending y full v) true
    timely_leaves kind pending y Unsent = first_leaves (closing kind) pending
    timely_leaves kind pending y Held = later_leaves y kind
    timely_leaves kind pending y (Sent at) = later_leaves y kind

    timed_leaves : (kind : StreamInput) (pending : Bool) (y : Option Heard) → Leaves (exchange_input c h x kind pending y full) true
    unfolding exchange_input
    timed_leaves kind pending y = go (due_at c.budget h.at)
      where
        go : (z : Option UpgradeStop) → Leaves (in_time c h x kind pending y full z) true
        go None = timely_leaves kind pending y x.connect
        go (Some (ExchangeTimeout round ms)) = exchange_leaves x.conn x.stream
        go (Some (UpgradeTimeout ms)) = exchange_leaves x.conn x.stream

-- ---- a call

-- a decision of a call on the core; v: where it is accepted, the handshake ran out
abbrev Step : Core → Decision → Bool → Type 0
Step c d v = promoted d.core.phase ≡ pick (both (no (is_refused d.outcome)) v) false (promoted c.phase)

none_step : (c : Core) (d : Decision) → Leaves d (promoted c.phase) → Step c d false
none_step c d h = go (is_refused d.outcome)
  where
    go : (r : Bool) → promoted d.core.phase ≡ pick (both (no r) false) false (promoted c.phase)
    go true = h
    go false = h

checked : (c : Core) (d : Decision) (v : Bool) → Step c d v → (y : Result ⊤ Refusal) → Step c (unless c d y) v
unfolding refused_of
checked c d v h (Ok tt) = h
checked c d v h (Err why) = refl

checked_input : (c : Core) (d : Decision) (v : Bool) → Step c d v → (short : Bool) → Step c (pick short (refused_of c ReplyBufferTooShort) d) v
unfolding refused_of
checked_input c d v h true = refl
checked_input c d v h false = h

module _ (k : Begun) (g : UpgradeBudget) (m : Framed) (t : Chosen) (deadline rounds : ℕ) where
  abbrev core : Phase → Core
  core p = core_of k p g m.len t.len

  up_step : (h : Host) (peer : PeerId) (conn : ConnectionId) (relayed : Bool) (p : Phase) (stage : Stage)
      → Together k.settings g m t deadline rounds p stage → Leaves (up_at (core p) h peer conn relayed) (promoted p)
  unfolding up_at connected_of
  up_step h peer conn relayed p stage r =
      pick_leaves (eqb peer.0 k.source.0) _ _ (promoted p) (go p stage r) (quiet_leaves (core p) (promoted p) refl)
    where
      go : (p : Phase) (stage : Stage) → Together k.settings g m t deadline rounds p stage
          → Leaves (established_at (core p) h conn relayed p) (promoted p)
      go p stage (in_handshake end) =
          pick_leaves relayed _ _ true
          (pick_leaves (eqb conn.0 k.circuit.0) _ _ true (came_leaves (core p) h refl) (quiet_leaves (core p) true refl))
          (direct_leaves (core p) h refl conn None)
      go p stage (in_exchange_lem on stream end count write x) =
          pick_leaves relayed _ _ true (quiet_leaves (core p) true refl) (direct_leaves (core p) h refl conn (Some (e.Reset on stream)))
      go p stage (in_window closes q w x) =
          pick_leaves relayed _ _ true (quiet_leaves (core p) true refl) (direct_leaves (core p) h refl conn None)
      go p stage (at_end v) = quiet_leaves (core p) v refl

  tick_step : (h : Host) (p : Phase) (stage : Stage) → Together k.settings g m t deadline rounds p stage
      → Step (core p) (tick_at (core p) h p) (lapses h.at stage)
  unfolding tick_handshaking quiet_of decided_of in_phase
  tick_step h p stage (in_handshake end) = go (ltb h.at end)
    where
      c : Core
      c = core (Handshaking end)

      go : (y : Bool) → Step c (pick y (quiet_of c) (decided_of (in_phase c (Done false)) Kept
          (event_of (Some (e.Close k.circuit)) None) None)) (no y)
      go true = refl
      go false = refl
  tick_step h p stage (in_exchange_lem conn stream end count write x) =
      none_step (core p) (tick_exchange (core p) h conn stream) (exchange_leaves (core p) h refl conn stream)
  tick_step h p stage (in_window closes q w x) = none_step (core p) (tick_punching (core p) h closes q) (window_leaves (core p) h refl closes q)
  tick_step h p stage (at_end v) = refl

  input_step : (h : Host) (stream : StreamId) (kind : StreamInput) (pending : Bool) (y : Option Heard) (full : Bool) (p : Phase)
      (stage : Stage)
      → Together k.settings g m t deadline rounds p stage → Leaves (input_at (core p) h stream kind pending y full p) (promoted p)
  input_step h stream kind pending y full p stage (in_handshake end) = quiet_leaves (core p) true refl
  input_step h stream kind pending y full p stage (in_exchange_lem conn on end count write x) =
      pick_leaves (eqb on.0 stream.0) _ _ true
      (timed_leaves (core p) h refl (record { conn = conn; stream = on; count = count; connect = write }) full kind pending y)
      (quiet_leaves (core p) true refl)
  input_step h stream kind pending y full p stage (in_window closes q w x) = quiet_leaves (core p) true refl
  input_step h stream kind pending y full p stage (at_end v) = quiet_leaves (core p) v refl

  wrote_step : (at : ℕ) (conn : ConnectionId) (stream : StreamId) (p : Phase) (stage : Stage) → Together k.settings g m t deadline rounds p stage
      → promoted (wrote_at (core p) at conn stream p).phase ≡ promoted p
  unfolding in_phase
  wrote_step at conn stream p stage (in_handshake end) = refl
  wrote_step at conn stream p stage (in_exchange_lem on running end count write x) = go (both (eqb on.0 conn.0) (eqb running.0 stream.0)) write
    where
      c : ConnectWrite → Core
      c w = core (Exchange on running count w)

      go : (v : Bool) (w : ConnectWrite) → promoted (pick v (wrote_to (c w) at on running count w) (c w)).phase ≡ true
      go true Unsent = refl
      go true Held = refl
      go true (Sent u) = refl
      go false w = refl
  wrote_step at conn stream p stage (in_window closes q w x) = refl
  wrote_step at conn stream p stage (at_end v) = refl

  down_step : (conn : ConnectionId) (p : Phase) (stage : Stage) → Together k.settings g m t deadline rounds p stage
      → promoted (pick (both (eqb conn.0 k.circuit.0) (no (is_done p))) (done_of (core p)) (core p)).phase ≡ promoted p
  unfolding done_of in_phase
  down_step conn p stage r = go (eqb conn.0 k.circuit.0) p stage r
    where
      go : (v : Bool) (p : Phase) (stage : Stage) → Together k.settings g m t deadline rounds p stage
          → promoted (pick (both v (no (is_done p))) (done_of (core p)) (core p)).phase ≡ promoted p
      go true p stage (in_handshake end) = refl
      go true p stage (in_exchange_lem on stream end count write x) = refl
      go true p stage (in_window closes q w x) = refl
      go true p stage (at_end u) = refl
      go false p stage r = refl

call_step : (k : Begun) (p : Phase) (g : UpgradeBudget) (m : Framed) (t : Chosen) (b : Book)
    → Together k.settings g m t b.deadline b.rounds p b.stage → (x : Call)
    → promoted (step_of (circuit_of k p g m t) x).circuit.core.phase
    ≡ pick (both (no (step_of (circuit_of k p g m t) x).refused) (lapsed b x)) false (promoted p)
unfolding step_of lapsed up_in tick_in input_in hearing wrote_answer wrote_of down_answer down_of answer_of quiet_of decided_of
call_step k p g m t b r (up l h own peer conn relayed) =
    rw (up_made (circuit_of k p g m t) h own peer conn relayed)
    (checked (core_of k p g m.len t.len) (up_at (core_of k p g m.len t.len) h peer conn relayed) false
    (none_step (core_of k p g m.len t.len) (up_at (core_of k p g m.len t.len) h peer conn relayed)
    (up_step k g m t b.deadline b.rounds h peer conn relayed p b.stage r))
    (check_of p h.offer own))
call_step k p g m t b r (input l lent h own stream kind bytes pending) =
    rw (input_made (circuit_of k p g m t) h own l lent stream kind bytes pending)
    (checked_input (core_of k p g m.len t.len) _ false
    (checked (core_of k p g m.len t.len) decided false
    (none_step (core_of k p g m.len t.len) decided
    (input_step k g m t b.deadline b.rounds h stream kind pending _ (refuses_punches l k.source) p b.stage r))
    (check_of p h.offer own))
    (ltb (length lent) 4098))
  where
    decided : Decision
    decided = hearing (core_of k p g m.len t.len) (refuses_punches l k.source) h lent stream kind bytes pending
call_step k p g m t b r (tick l h own) =
    rw (tick_made (circuit_of k p g m t) h own)
    (checked (core_of k p g m.len t.len) (tick_at (core_of k p g m.len t.len) h p) (lapses h.at b.stage)
    (tick_step k g m t b.deadline b.rounds h p b.stage r) (check_of p h.offer own))
call_step k p g m t b r (wrote at conn stream) = wrote_step k g m t b.deadline b.rounds at conn stream p b.stage r
call_step k p g m t b r (down at peer conn) = down_step k g m t b.deadline b.rounds conn p b.stage r

step_promoted : (k : Begun) (c : InboundCircuit) (b : Book) → Rel k c b → (x : Call)
    → promoted (step_of c x).circuit.core.phase ≡ pick (both (no (step_of c x).refused) (lapsed b x)) false (promoted c.core.phase)
step_promoted k c b r x =
    subst
    (λ (d : InboundCircuit). promoted (step_of d x).circuit.core.phase
    ≡ pick (both (no (step_of d x).refused) (lapsed b x)) false (promoted d.core.phase))
    (sym r.shape) (call_step k c.core.phase c.core.budget (framed_in c) (chosen_in c) b r.together x)

-- ---- all calls

either_pick : (u v p : Bool) → pick v false (pick u false p) ≡ pick (either u v) false p
either_pick true true p = refl
either_pick true false p = refl
either_pick false v p = refl

book_promoted : (k : Begun) (c : InboundCircuit) (b : Book) → Rel k c b → (x : Call)
    → promoted (step_of c x).circuit.core.phase ≡ pick (both (no (turned (refusal (whose k) b x))) (lapsed b x)) false
    (promoted c.core.phase)
book_promoted k c b r x =
    step_promoted k c b r x ∙ ap (λ (v : Bool). pick (both (no v) (lapsed b x)) false (promoted c.core.phase)) (step_turned k c b r x)

pub all_promoted : (k : Begun) (xs : List Call) (c : InboundCircuit) (b : Book) → Rel k c b
    → promoted (after_all c xs).core.phase ≡ pick (ran_out k.settings (whose k) b xs) false (promoted c.core.phase)
unfolding after_all ran_out
all_promoted k [] c b r = refl
all_promoted k (x ∷ xs) c b r =
    all_promoted k xs (step_of c x).circuit (next k.settings (whose k) b x) (next_rel k c b r x)
    ∙ ap (pick (ran_out k.settings (whose k) (next k.settings (whose k) b x) xs) false) (book_promoted k c b r x)
    ∙ either_pick (both (no (turned (refusal (whose k) b x))) (lapsed b x)) (ran_out k.settings (whose k) (next k.settings (whose k) b x) xs)
    (promoted c.core.phase)

-- a new circuit is promoted where its start was accepted
pub begun_promoted : (source relay : PeerId) (circuit : ConnectionId) (s : Settings) (at : ℕ)
    → promoted (begun source relay circuit s at).core.phase ≡ no (ltb last (at + s.handshake))
unfolding new_answer answer_of started_of begun_of refused_of quiet_of decided_of
begun_promoted source relay circuit s at = go (ltb last (at + s.handshake))
  where
    go : (v : Bool)
        → promoted
        (pick {A = Decision} v (refused_of (begun_of source relay circuit s (Done false)) HandshakeTooLate)
        (quiet_of (begun_of source relay circuit s (Handshaking (at + s.handshake))))
        ).core.phase
        ≡ no v
    go true = refl
    go false = refl
