-- Tick (RULES.md, section 11.6).
use Rattle.std.specs.Prelude.{ℕ, false, ltb, leb, None, Option, Some}
use Rattle.prelude.specs.Choice.{pick}
use Rattle.ids.specs.declared.ConnectionId.{ConnectionId}
use Rattle.ids.specs.declared.StreamId.{StreamId}
use Rattle.budget.specs.declared.UpgradeStop.{UpgradeStop}
use Rattle.budget.specs.declared.UpgradeStop.TheVariants.{ExchangeTimeout, UpgradeTimeout}
use Rattle.budget.specs.Budget.{due_at}
use Rattle.schedule.specs.declared.BlastSchedule.{BlastSchedule}
use Rattle.schedule.specs.Schedule.{due_of}
use Rattle.vocabulary.specs.declared.Host.{Host}
use Rattle.vocabulary.specs.declared.Effect.TheVariants.{Close}
use Rattle.circuit.specs.declared.state.Core.{Core}
use Rattle.circuit.specs.declared.state.Phase.{Phase}
use Rattle.circuit.specs.declared.state.Phase.TheVariants.{Handshaking, Exchange, Punching, Done}
use Rattle.circuit.specs.declared.decision.Fate.TheVariants.{Kept}
use Rattle.circuit.specs.declared.decision.Said.{Said}
use Rattle.circuit.specs.declared.decision.Decision.{Decision}
use Rattle.circuit.specs.State.{in_phase, done_of}
use Rattle.circuit.specs.Decisions.{event_of, reset_of, burst_of, decided_of, quiet_of}
use Rattle.rounds.specs.Rounds.{open_round, fail_round}

unfoldable pub tick_handshaking : Core → ℕ → ℕ → Decision
tick_handshaking c at deadline =
    pick (ltb at deadline) (quiet_of c) (decided_of (in_phase c (Done false)) Kept (event_of (Some (Close c.circuit)) None) None)

-- the upgrade is over, and the exchange's stream is reset
abbrev pub reset_at_end : Core → ConnectionId → StreamId → Decision
reset_at_end c conn stream = decided_of (done_of c) Kept (reset_of conn stream) None

abbrev pub stopped : Core → Host → ConnectionId → StreamId → Option UpgradeStop → Decision
stopped c h conn stream None = quiet_of c
stopped c h conn stream (Some (ExchangeTimeout round ms)) =
    pick (ltb h.at c.budget.deadline) (fail_round c h (reset_of conn stream)) (reset_at_end c conn stream)
stopped c h conn stream (Some (UpgradeTimeout ms)) = reset_at_end c conn stream

unfoldable pub tick_exchange : Core → Host → ConnectionId → StreamId → Decision
tick_exchange c h conn stream = stopped c h conn stream (due_at c.budget h.at)

-- the instants newly due
abbrev pub due_burst : Core → Host → BlastSchedule → Said
due_burst c h q = burst_of (due_of q c.settings.interval h.at).times c.settings.payload c.targets

-- before the deadline: the instants newly due go out, and the round is over at the window's end
unfoldable pub tick_punching : Core → Host → ℕ → BlastSchedule → Decision
tick_punching c h until q =
    pick (leb c.budget.deadline h.at) (quiet_of (done_of c))
    (pick (ltb h.at until)
    (decided_of (in_phase c (Punching until (due_of q c.settings.interval h.at).schedule)) Kept (due_burst c h q) None)
    (open_round c c.budget h (due_burst c h q)))

abbrev pub tick_at : Core → Host → Phase → Decision
tick_at c h (Handshaking deadline) = tick_handshaking c h.at deadline
tick_at c h (Exchange conn stream count connect) = tick_exchange c h conn stream
tick_at c h (Punching until q) = tick_punching c h until q
tick_at c h (Done promoted) = quiet_of c
