-- A call that is refused changes nothing: what it decided is no more than the refusal.
-- Assumes nothing.
use mathlib.Core.Path.{◌≡◌, refl, sym, ◌∙◌, ap}
use mathlib.Core.Bool.{Bool, true, false}
use mathlib.Core.List.{List}
use Prim.Native.Nat.{ℕ}
use native.Mathlib.Omega.{arith}
use lib.Dec.{eqb, ltb, leb}
use lib.ListN.{length}
use Rattle.std.specs.Prelude.{Err, None, Ok, Option, Result, Some, ⊤}
use Rattle.prelude.specs.Choice.{pick, both}
use Rattle.ids.specs.declared.ConnectionId.{ConnectionId}
use Rattle.ids.specs.declared.PeerId.{PeerId}
use Rattle.ids.specs.declared.StreamId.{StreamId}
use Rattle.refusal.specs.declared.Refusal.{Refusal}
use Rattle.refusal.specs.declared.Refusal.TheVariants.{LedgerFull, ReplyBufferTooShort}
use Rattle.wire.specs.Frame.{max_frame_size}
use Rattle.budget.specs.declared.UpgradeBudget.{UpgradeBudget}
use Rattle.budget.specs.declared.UpgradeStop.{UpgradeStop}
use Rattle.budget.specs.declared.UpgradeStop.TheVariants.{ExchangeTimeout, UpgradeTimeout}
use Rattle.budget.specs.Budget.{armed, ended, may_begin, due_at}
use Rattle.schedule.specs.declared.BlastSchedule.{BlastSchedule}
use Rattle.schedule.specs.Schedule.{due_of}
use Rattle.frames.specs.Sent.{own_connect}
use Rattle.vocabulary.specs.declared.Host.{Host}
use Rattle.vocabulary.specs.declared.Effect.{Effect}
use Rattle.vocabulary.specs.declared.Effect.TheVariants as effect
use Rattle.vocabulary.specs.declared.StreamInput.{StreamInput}
use Rattle.vocabulary.specs.declared.StreamInput.TheVariants as i
use Rattle.circuit.specs.declared.state.Core.{Core}
use Rattle.circuit.specs.declared.state.Phase.{Phase}
use Rattle.circuit.specs.declared.state.Phase.TheVariants.{Handshaking, Exchange, Punching, Done}
use Rattle.circuit.specs.declared.state.ConnectWrite.{ConnectWrite}
use Rattle.circuit.specs.declared.state.ConnectWrite.TheVariants.{Unsent, Held, Sent}
use Rattle.circuit.specs.declared.decision.Decision.{Decision}
use Rattle.circuit.specs.declared.decision.Said.{Said}
use Rattle.circuit.specs.declared.decision.Fate.TheVariants.{Kept}
use Rattle.circuit.specs.declared.decision.Message.TheVariants.{Connect}
use Rattle.inputs.specs.declared.Running.{Running}
use Rattle.inputs.specs.declared.Heard.{Heard}
use Rattle.inputs.specs.declared.Heard.TheVariants as heard
use Rattle.circuit.specs.Decisions.{silence, event_of, reset_of, sending_of, decided_of, quiet_of, refused_of}
use Rattle.candidates.specs.declared.Terms.{Terms}
use Rattle.circuit.specs.State.{terms_of, in_phase, done_of}
use Rattle.checks.specs.Refusals.{check_of}
use Rattle.rounds.specs.Rounds.{is_live, no_round, open_stream, open_round, fail_round}
use Rattle.upgrade.specs.Ticks.{tick_handshaking, reset_at_end, stopped, tick_exchange, due_burst, tick_punching, tick_at}
use Rattle.upgrade.specs.Ups.{upgraded_of, path_said, announced, established_at, connected_of, up_at}
use Rattle.inputs.specs.Inputs.{closing, in_exchange, first_input, open_window, replied, later_input, timely_input, in_time, exchange_input, input_at}
use Rattle.carried.specs.Carried.{opens, with_core, with_connect, framed_by}
use Rattle.circuit.specs.Calls.{unless}
use Rattle.lent.specs.Calls.{up_in, up_of, tick_in, tick_of, peeked, hearing, input_in, input_of}

-- ---- decisions that are accepted

abbrev Accepts : Decision → Type 0
Accepts d = d.outcome ≡ Ok tt

quiet_accepts : (c : Core) → Accepts (quiet_of c)
unfolding quiet_of decided_of
quiet_accepts c = refl

none_accepts : (c : Core) (s : Said) → Accepts (no_round c s)
unfolding no_round decided_of
none_accepts c s = refl

stream_accepts : (c : Core) (b : UpgradeBudget) (at : ℕ) (s : Said) (o : Option (ConnectionId × StreamId)) → Accepts (open_stream c b at s o)
unfolding decided_of
stream_accepts c b at s None = none_accepts c s
stream_accepts c b at s (Some (conn, stream)) = refl

round_accepts : (c : Core) (b : UpgradeBudget) (h : Host) (s : Said) → Accepts (open_round c b h s)
unfolding open_round
round_accepts c b h s = go (both (is_live c.circuit h.live) (may_begin b h.at))
  where
    go : (v : Bool) → Accepts (pick v (open_stream c b h.at s h.offer) (no_round c s))
    go true = stream_accepts c b h.at s h.offer
    go false = none_accepts c s

fail_accepts : (c : Core) (h : Host) (s : Said) → Accepts (fail_round c h s)
unfolding fail_round
fail_accepts c h s = round_accepts c (ended c.budget) h s

end_accepts : (c : Core) (conn : ConnectionId) (stream : StreamId) → Accepts (reset_at_end c conn stream)
unfolding decided_of
end_accepts c conn stream = refl

exchange_accepts : (c : Core) (h : Host) (conn : ConnectionId) (stream : StreamId) → Accepts (tick_exchange c h conn stream)
unfolding tick_exchange
exchange_accepts c h conn stream = go (due_at c.budget h.at)
  where
    by : (v : Bool) → Accepts (pick v (fail_round c h (reset_of conn stream)) (reset_at_end c conn stream))
    by true = fail_accepts c h (reset_of conn stream)
    by false = end_accepts c conn stream

    go : (y : Option UpgradeStop) → Accepts (stopped c h conn stream y)
    go None = quiet_accepts c
    go (Some (ExchangeTimeout round ms)) = by (ltb h.at c.budget.deadline)
    go (Some (UpgradeTimeout ms)) = end_accepts c conn stream

handshake_accepts : (c : Core) (at deadline : ℕ) → Accepts (tick_handshaking c at deadline)
unfolding tick_handshaking quiet_of decided_of
handshake_accepts c at deadline = go (ltb at deadline)
  where
    go : (v : Bool)
        → Accepts (pick v (quiet_of c) (decided_of (in_phase c (Done false)) Kept (event_of (Some (effect.Close c.circuit)) None) None))
    go true = refl
    go false = refl

punching_accepts : (c : Core) (h : Host) (until : ℕ) (q : BlastSchedule) → Accepts (tick_punching c h until q)
unfolding tick_punching quiet_of decided_of
punching_accepts c h until q = go (leb c.budget.deadline h.at) (ltb h.at until)
  where
    go : (u v : Bool)
        → Accepts (pick u (quiet_of (done_of c))
        (pick v (decided_of (in_phase c (Punching until (due_of q c.settings.interval h.at).schedule)) Kept (due_burst c h q) None)
        (open_round c c.budget h (due_burst c h q))))
    go true v = refl
    go false true = refl
    go false false = round_accepts c c.budget h (due_burst c h q)

tick_accepts : (c : Core) (h : Host) (p : Phase) → Accepts (tick_at c h p)
tick_accepts c h (Handshaking deadline) = handshake_accepts c h.at deadline
tick_accepts c h (Exchange conn stream count connect) = exchange_accepts c h conn stream
tick_accepts c h (Punching until q) = punching_accepts c h until q
tick_accepts c h (Done promoted) = quiet_accepts c

upgraded_accepts : (c : Core) (new : ConnectionId) (third : Option Effect) → Accepts (upgraded_of c new third)
unfolding upgraded_of decided_of
upgraded_accepts c new third = refl

announced_accepts : (c : Core) (h : Host) → Accepts (announced c h)
unfolding announced decided_of
announced_accepts c h = go c.settings.upgrades
  where
    go : (v : Bool)
        → Accepts (pick v (open_round c (armed h.at c.settings.upgrade c.settings.exchange c.settings.punch) h (path_said c))
        (decided_of (done_of c) Kept (path_said c) None))
    go true = round_accepts c (armed h.at c.settings.upgrade c.settings.exchange c.settings.punch) h (path_said c)
    go false = refl

established_accepts : (c : Core) (h : Host) (conn : ConnectionId) (relayed : Bool) (p : Phase) → Accepts (established_at c h conn relayed p)
established_accepts c h conn true (Handshaking deadline) = go (eqb conn.0 c.circuit.0)
  where
    go : (v : Bool) → Accepts (pick v (announced c h) (quiet_of c))
    go true = announced_accepts c h
    go false = quiet_accepts c
established_accepts c h conn false (Handshaking deadline) = upgraded_accepts c conn None
established_accepts c h conn true (Exchange at stream count connect) = quiet_accepts c
established_accepts c h conn false (Exchange at stream count connect) = upgraded_accepts c conn (Some (effect.Reset at stream))
established_accepts c h conn true (Punching until q) = quiet_accepts c
established_accepts c h conn false (Punching until q) = upgraded_accepts c conn None
established_accepts c h conn relayed (Done promoted) = quiet_accepts c

up_accepts : (c : Core) (h : Host) (peer : PeerId) (conn : ConnectionId) (relayed : Bool) → Accepts (up_at c h peer conn relayed)
unfolding up_at connected_of
up_accepts c h peer conn relayed = go (eqb peer.0 c.source.0)
  where
    go : (v : Bool) → Accepts (pick v (established_at c h conn relayed c.phase) (quiet_of c))
    go true = established_accepts c h conn relayed c.phase
    go false = quiet_accepts c

-- ---- decisions that are no more than their refusal, if they are refused

abbrev pub Whole : Core → Decision → Type 0
Whole c d = (why : Refusal) → d.outcome ≡ Err why → d ≡ refused_of c why

accepted_whole : (c : Core) (d : Decision) → Accepts d → Whole c d
accepted_whole c d a why e = absurd (let w : Ok tt ≡ Err why = sym a ∙ e in let z : ◌≡◌ {A = ℕ} 0 1 = cc in omega arith)

refused_whole : (c : Core) (w : Refusal) → Whole c (refused_of c w)
unfolding refused_of
refused_whole c w why e = let f : w ≡ why = cc in rw f

unless_whole : (c : Core) (d : Decision) (o : Result ⊤ Refusal) → Whole c d → Whole c (unless c d o)
unless_whole c d (Ok tt) w = w
unless_whole c d (Err why) w = refused_whole c why

plain : (c : Core) (why : Refusal) → opens (refused_of c why).fourth ≡ false
unfolding refused_of opens
plain c why = refl

framed_whole : (c : Core) (t : Terms) (own : List ℕ) (d : Decision) → Whole c d → Whole c (framed_by t own d)
unfolding framed_by
framed_whole c t own d w = go (opens d.fourth) refl
  where
    go : (v : Bool) → opens d.fourth ≡ v → Whole c (pick v (with_core d (with_connect d.core (own_connect t.limits own).len)) d)
    go true o why e =
        absurd (let f : d ≡ refused_of c why = w why e in
        let g : ◌≡◌ {A = Bool} true false = sym o ∙ ap (λ (z : Decision). opens z.fourth) f ∙ plain c why in let z : ◌≡◌ {A = ℕ} 0 1 = cc in omega arith)
    go false o why e = w why e

pub up_whole : (c : Core) (h : Host) (own : List ℕ) (peer : PeerId) (conn : ConnectionId) (relayed : Bool) → Whole c (up_of c h own peer conn relayed)
unfolding up_of up_in
up_whole c h own peer conn relayed =
    framed_whole c (terms_of c.settings) own (unless c (up_at c h peer conn relayed) (check_of c.phase h.offer own))
    (unless_whole c (up_at c h peer conn relayed) (check_of c.phase h.offer own)
    (accepted_whole c (up_at c h peer conn relayed) (up_accepts c h peer conn relayed)))

pub tick_whole : (c : Core) (h : Host) (own : List ℕ) → Whole c (tick_of c h own)
unfolding tick_of tick_in
tick_whole c h own =
    framed_whole c (terms_of c.settings) own (unless c (tick_at c h c.phase) (check_of c.phase h.offer own))
    (unless_whole c (tick_at c h c.phase) (check_of c.phase h.offer own) (accepted_whole c (tick_at c h c.phase) (tick_accepts c h c.phase)))

-- ---- an input

window_accepts : (c : Core) (at : ℕ) (x : Running) (n : ℕ) → Accepts (open_window c at x n)
unfolding open_window decided_of
window_accepts c at x n = refl

first_accepts : (c : Core) (h : Host) (x : Running) (over pending : Bool) → Accepts (first_input c h x over pending)
unfolding first_input decided_of
first_accepts c h x true pending = fail_accepts c h (sending_of silence x.conn x.stream (Some (Connect c.connect)) true)
first_accepts c h x false pending = refl

module _ (c : Core) (h : Host) (full : Bool) where
  replied_whole : (x : Running) (y : Option Heard) → Whole c (replied c h x full y)
  replied_whole x None = accepted_whole c (quiet_of c) (quiet_accepts c)
  replied_whole x (Some (heard.More k)) = accepted_whole c (quiet_of (in_exchange c x k x.connect)) (quiet_accepts (in_exchange c x k x.connect))
  replied_whole x (Some heard.Failed) = accepted_whole c (fail_round c h (reset_of x.conn x.stream)) (fail_accepts c h (reset_of x.conn x.stream))
  replied_whole x (Some (heard.Connect n)) = go full
    where
      go : (v : Bool) → Whole c (pick v (refused_of c LedgerFull) (open_window c h.at x n))
      go true = refused_whole c LedgerFull
      go false = accepted_whole c (open_window c h.at x n) (window_accepts c h.at x n)

  module _ (y : Option Heard) (pending : Bool) where
    later_whole : (x : Running) (k : StreamInput) → Whole c (later_input c h x y full k)
    later_whole x i.Ready = accepted_whole c (quiet_of c) (quiet_accepts c)
    later_whole x i.Data = replied_whole x y
    later_whole x i.RemoteWriteClosed = accepted_whole c (fail_round c h (reset_of x.conn x.stream)) (fail_accepts c h (reset_of x.conn x.stream))
    later_whole x i.Closed = accepted_whole c (fail_round c h (reset_of x.conn x.stream)) (fail_accepts c h (reset_of x.conn x.stream))

    timely_whole : (x : Running) (k : StreamInput) (w : ConnectWrite) → Whole c (timely_input c h x k pending y full w)
    timely_whole x k Unsent = accepted_whole c (first_input c h x (closing k) pending) (first_accepts c h x (closing k) pending)
    timely_whole x k Held = later_whole x k
    timely_whole x k (Sent at) = later_whole x k

    exchange_whole : (x : Running) (k : StreamInput) → Whole c (exchange_input c h x k pending y full)
    unfolding exchange_input
    exchange_whole x k = go (due_at c.budget h.at)
      where
        go : (s : Option UpgradeStop) → Whole c (in_time c h x k pending y full s)
        go None = timely_whole x k x.connect
        go (Some (ExchangeTimeout round ms)) = accepted_whole c (tick_exchange c h x.conn x.stream) (exchange_accepts c h x.conn x.stream)
        go (Some (UpgradeTimeout ms)) = accepted_whole c (tick_exchange c h x.conn x.stream) (exchange_accepts c h x.conn x.stream)

    at_whole : (stream : StreamId) (k : StreamInput) (p : Phase) → Whole c (input_at c h stream k pending y full p)
    at_whole stream k (Handshaking deadline) = accepted_whole c (quiet_of c) (quiet_accepts c)
    at_whole stream k (Exchange conn on count write) = go (eqb on.0 stream.0)
      where
        x : Running
        x = record { conn = conn; stream = on; count = count; connect = write }

        go : (v : Bool) → Whole c (pick v (exchange_input c h x k pending y full) (quiet_of c))
        go true = exchange_whole x k
        go false = accepted_whole c (quiet_of c) (quiet_accepts c)
    at_whole stream k (Punching until q) = accepted_whole c (quiet_of c) (quiet_accepts c)
    at_whole stream k (Done promoted) = accepted_whole c (quiet_of c) (quiet_accepts c)

pub input_whole : (c : Core) (full : Bool) (h : Host) (own buffer : List ℕ) (stream : StreamId) (k : StreamInput) (bytes : List ℕ) (pending : Bool)
    → Whole c (input_of c full h own buffer stream k bytes pending)
unfolding input_of input_in hearing
input_whole c full h own buffer stream k bytes pending = framed_whole c (terms_of c.settings) own (pick (ltb (length buffer) max_frame_size) (refused_of c ReplyBufferTooShort) (unless c d (check_of c.phase h.offer own)))
    (go (ltb (length buffer) max_frame_size))
  where
    d : Decision
    d = input_at c h stream k pending (Some (peeked c buffer bytes).heard) full c.phase

    go : (v : Bool) → Whole c (pick v (refused_of c ReplyBufferTooShort) (unless c d (check_of c.phase h.offer own)))
    go true = refused_whole c ReplyBufferTooShort
    go false =
        unless_whole c d (check_of c.phase h.offer own)
        (at_whole c h full (Some (peeked c buffer bytes).heard) pending stream k c.phase)
