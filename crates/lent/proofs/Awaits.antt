-- Where an input's bytes are not the reply's, what they would bring plays no part, and no window opens.
-- Assumes nothing.
use mathlib.Core.Path.{◌≡◌, refl}
use mathlib.Core.Bool.{Bool, true, false}
use mathlib.Core.List.{List}
use Prim.Native.Nat.{ℕ, ◌-◌, ◌≤◌}
use native.Mathlib.Omega.{arith}
use borrow.Author.Tests.{ltb-false, leb-false, le-leb}
use lib.Dec.{eqb, ltb, leb}
use Rattle.std.specs.Prelude.{None, Option, Some, ℕ}
use Rattle.prelude.specs.Choice.{pick, both}
use Rattle.ids.specs.declared.ConnectionId.{ConnectionId}
use Rattle.ids.specs.declared.StreamId.{StreamId}
use Rattle.budget.specs.declared.UpgradeBudget.{UpgradeBudget}
use Rattle.budget.specs.declared.UpgradeStop.{UpgradeStop}
use Rattle.budget.specs.declared.UpgradeStop.TheVariants.{ExchangeTimeout, UpgradeTimeout}
use Rattle.budget.specs.Budget.{ended, may_begin, upgrade_due, due_in, due_at, next_in, next_deadline}
use Rattle.candidates.specs.Selection.{Chosen}
use Rattle.vocabulary.specs.declared.Host.{Host}
use Rattle.vocabulary.specs.declared.StreamInput.{StreamInput}
use Rattle.vocabulary.specs.declared.StreamInput.TheVariants as i
use Rattle.circuit.specs.declared.state.Core.{Core}
use Rattle.circuit.specs.declared.state.Phase.{Phase}
use Rattle.circuit.specs.declared.state.Phase.TheVariants.{Handshaking, Exchange, Punching, Done}
use Rattle.circuit.specs.declared.state.ConnectWrite.{ConnectWrite}
use Rattle.circuit.specs.declared.state.ConnectWrite.TheVariants.{Unsent, Held, Sent}
use Rattle.circuit.specs.declared.decision.Message.TheVariants.{Connect}
use Rattle.circuit.specs.declared.decision.Said.{Said}
use Rattle.circuit.specs.declared.decision.Decision.{Decision}
use Rattle.inputs.specs.declared.Running.{Running}
use Rattle.inputs.specs.declared.Heard.{Heard}
use Rattle.circuit.specs.Decisions.{silence, reset_of, sending_of, decided_of, quiet_of}
use Rattle.rounds.specs.Rounds.{is_live, no_round, open_stream, open_round, fail_round}
use Rattle.upgrade.specs.Ticks.{reset_at_end, stopped, tick_exchange}
use Rattle.inputs.specs.Inputs.{closing, first_input, later_input, timely_input, in_time, exchange_input, input_at, went_out, is_data, awaits_in, awaits}
use Rattle.carried.specs.Carried.{targets_after}

-- ---- a limit ran out, or none

-- from the next deadline on one has
due_then : (b : UpgradeBudget) (at : ℕ) → next_deadline b ≤ at → due_at b at ≡ None → ⊥
unfolding next_deadline due_at upgrade_due
due_then b at h = go b.running h
  where
    over : b.deadline ≤ at → pick (leb b.deadline at) (Some (UpgradeTimeout (b.deadline - b.armed))) None ≡ None → ⊥
    over n e = let f : Some (UpgradeTimeout (b.deadline - b.armed)) ≡ None = rw (le-leb b.deadline at n) at e in absurd (let z : ◌≡◌ {A = ℕ} 0 1 = cc in omega arith)

    go : (r : Option (ℕ × ℕ)) → next_in b r ≤ at → due_in b at r ≡ None → ⊥
    go None n e = over n e
    go (Some (started, end)) n e = by (leb end at) refl (ltb end b.deadline) refl e
      where
        by : (u : Bool) → leb end at ≡ u → (v : Bool) → ltb end b.deadline ≡ v
            → pick (both u v) (Some (ExchangeTimeout b.rounds (end - started))) (pick (leb b.deadline at) (Some (UpgradeTimeout (b.deadline - b.armed))) None) ≡ None → ⊥
        by true p true q e = absurd (let z : ◌≡◌ {A = ℕ} 0 1 = cc in omega arith)
        by true p false q e = over (omega (arith, ltb-false end b.deadline q)) e
        by false p v q e = over (omega (arith, leb-false end at p)) (last v e)
          where
            last : (v : Bool)
                → pick (both false v) (Some (ExchangeTimeout b.rounds (end - started))) (pick (leb b.deadline at) (Some (UpgradeTimeout (b.deadline - b.armed))) None) ≡ None
                → pick (leb b.deadline at) (Some (UpgradeTimeout (b.deadline - b.armed))) None ≡ None
            last true e = e
            last false e = e

-- ---- decisions that open no window

abbrev pub Unopened : Decision → Type 0
Unopened d = (t : List ℕ) (q : Chosen) → targets_after t q d.window ≡ t

pub quiet_unopened : (c : Core) → Unopened (quiet_of c)
unfolding quiet_of decided_of targets_after
quiet_unopened c t q = refl

none_unopened : (c : Core) (s : Said) → Unopened (no_round c s)
unfolding no_round decided_of targets_after
none_unopened c s t q = refl

stream_unopened : (c : Core) (b : UpgradeBudget) (at : ℕ) (s : Said) (o : Option (ConnectionId × StreamId)) → Unopened (open_stream c b at s o)
unfolding decided_of targets_after
stream_unopened c b at s None = none_unopened c s
stream_unopened c b at s (Some (conn, stream)) = λ t q. refl

round_unopened : (c : Core) (b : UpgradeBudget) (h : Host) (s : Said) → Unopened (open_round c b h s)
unfolding open_round
round_unopened c b h s = go (both (is_live c.circuit h.live) (may_begin b h.at))
  where
    go : (v : Bool) → Unopened (pick v (open_stream c b h.at s h.offer) (no_round c s))
    go true = stream_unopened c b h.at s h.offer
    go false = none_unopened c s

fail_unopened : (c : Core) (h : Host) (s : Said) → Unopened (fail_round c h s)
unfolding fail_round
fail_unopened c h s = round_unopened c (ended c.budget) h s

end_unopened : (c : Core) (conn : ConnectionId) (stream : StreamId) → Unopened (reset_at_end c conn stream)
unfolding decided_of targets_after
end_unopened c conn stream t q = refl

tick_unopened : (c : Core) (h : Host) (conn : ConnectionId) (stream : StreamId) → Unopened (tick_exchange c h conn stream)
unfolding tick_exchange
tick_unopened c h conn stream = go (due_at c.budget h.at)
  where
    by : (v : Bool) → Unopened (pick v (fail_round c h (reset_of conn stream)) (reset_at_end c conn stream))
    by true = fail_unopened c h (reset_of conn stream)
    by false = end_unopened c conn stream

    go : (y : Option UpgradeStop) → Unopened (stopped c h conn stream y)
    go None = quiet_unopened c
    go (Some (ExchangeTimeout round ms)) = by (ltb h.at c.budget.deadline)
    go (Some (UpgradeTimeout ms)) = end_unopened c conn stream

first_unopened : (c : Core) (h : Host) (x : Running) (over pending : Bool) → Unopened (first_input c h x over pending)
unfolding first_input decided_of targets_after
first_unopened c h x true pending = fail_unopened c h (sending_of silence x.conn x.stream (Some (Connect c.connect)) true)
first_unopened c h x false pending = λ t q. refl

-- ---- an input that brings no byte of the reply

module _ (c : Core) (h : Host) (stream : StreamId) (kind : StreamInput) (pending : Bool) (y : Option Heard) (f : Bool) where
  abbrev Apart : Decision → Decision → Type 0
  Apart d e = (d ≡ e) × Unopened e

  module _ (x : Running) where
    later : (k : StreamInput) → is_data k ≡ false → Apart (later_input c h x y f k) (later_input c h x None false k)
    later i.Ready e = (refl, quiet_unopened c)
    later i.Data e = absurd (let z : ◌≡◌ {A = ℕ} 0 1 = cc in omega arith)
    later i.RemoteWriteClosed e = (refl, fail_unopened c h (reset_of x.conn x.stream))
    later i.Closed e = (refl, fail_unopened c h (reset_of x.conn x.stream))

    timely : (w : ConnectWrite) → both (went_out w) (is_data kind) ≡ false
        → Apart (timely_input c h x kind pending y f w) (timely_input c h x kind pending None false w)
    timely Unsent e = (refl, first_unopened c h x (closing kind) pending)
    timely Held e = later kind e
    timely (Sent at) e = later kind e

    in_time_lem : both (ltb h.at (next_deadline c.budget)) (both (went_out x.connect) (is_data kind)) ≡ false
        → Apart (exchange_input c h x kind pending y f) (exchange_input c h x kind pending None false)
    unfolding exchange_input
    in_time_lem e = go (due_at c.budget h.at) refl
      where
        sooner : (v : Bool) → ltb h.at (next_deadline c.budget) ≡ v → due_at c.budget h.at ≡ None
            → both v (both (went_out x.connect) (is_data kind)) ≡ false → both (went_out x.connect) (is_data kind) ≡ false
        sooner true p q e = e
        sooner false p q e = absurd (due_then c.budget h.at (ltb-false h.at (next_deadline c.budget) p) q)

        go : (s : Option UpgradeStop) → due_at c.budget h.at ≡ s
            → Apart (in_time c h x kind pending y f s) (in_time c h x kind pending None false s)
        go None q = timely x.connect (sooner (ltb h.at (next_deadline c.budget)) refl q e)
        go (Some (ExchangeTimeout round ms)) q = (refl, tick_unopened c h x.conn x.stream)
        go (Some (UpgradeTimeout ms)) q = (refl, tick_unopened c h x.conn x.stream)

  pub unheard : (p : Phase) → awaits c h.at stream kind p ≡ false
      → Apart (input_at c h stream kind pending y f p) (input_at c h stream kind pending None false p)
  unfolding awaits_in
  unheard (Handshaking deadline) e = (refl, quiet_unopened c)
  unheard (Exchange conn on count write) e = go (eqb on.0 stream.0) e
    where
      x : Running
      x = record { conn = conn; stream = on; count = count; connect = write }

      go : (v : Bool) → both v (both (ltb h.at (next_deadline c.budget)) (both (went_out write) (is_data kind))) ≡ false
          → Apart (pick v (exchange_input c h x kind pending y f) (quiet_of c)) (pick v (exchange_input c h x kind pending None false) (quiet_of c))
      go true e = in_time_lem x e
      go false e = (refl, quiet_unopened c)
  unheard (Punching until q) e = (refl, quiet_unopened c)
  unheard (Done promoted) e = (refl, quiet_unopened c)
