-- Up: a connection is established (RULES.md, section 11.5).
use Rattle.std.specs.Prelude.{Bool, eqb, None, Option, Some}
use Rattle.prelude.specs.Choice.{pick, both, either, no}
use Rattle.ids.specs.declared.ConnectionId.{ConnectionId}
use Rattle.ids.specs.declared.PeerId.{PeerId}
use Rattle.budget.specs.Budget.{armed}
use Rattle.vocabulary.specs.declared.Host.{Host}
use Rattle.vocabulary.specs.declared.Effect.{Effect}
use Rattle.vocabulary.specs.declared.Effect.TheVariants.{Path, Upgrade, Reset}
use Rattle.circuit.specs.declared.state.Core.{Core}
use Rattle.circuit.specs.declared.state.Phase.{Phase}
use Rattle.circuit.specs.declared.state.Phase.TheVariants.{Handshaking, Exchange, Punching, Done}
use Rattle.circuit.specs.declared.decision.Fate.TheVariants.{Kept}
use Rattle.circuit.specs.declared.decision.Said.{Said}
use Rattle.circuit.specs.declared.decision.Decision.{Decision}
use Rattle.circuit.specs.State.{done_of, is_done}
use Rattle.circuit.specs.Decisions.{event_of, decided_of, quiet_of}
use Rattle.rounds.specs.Rounds.{open_round}

unfoldable pub upgraded_of : Core → ConnectionId → Option Effect → Decision
upgraded_of c new third = decided_of (done_of c) Kept (event_of (Some (Upgrade c.source c.circuit new)) third) None

abbrev pub path_said : Core → Said
path_said c = event_of (Some (Path c.source c.relay c.circuit)) None

unfoldable pub announced : Core → Host → Decision
announced c h =
    pick c.settings.upgrades
    (open_round c (armed h.at c.settings.upgrade c.settings.exchange c.settings.punch) h (path_said c))
    (decided_of (done_of c) Kept (path_said c) None)

-- a connection from the source
abbrev pub established_at : Core → Host → ConnectionId → Bool → Phase → Decision
established_at c h conn relayed (Handshaking deadline) =
    pick relayed (pick (eqb conn.0 c.circuit.0) (announced c h) (quiet_of c)) (upgraded_of c conn None)
established_at c h conn relayed (Exchange at stream count connect) = pick relayed (quiet_of c) (upgraded_of c conn (Some (Reset at stream)))
established_at c h conn relayed (Punching until q) = pick relayed (quiet_of c) (upgraded_of c conn None)
established_at c h conn relayed (Done promoted) = quiet_of c

unfoldable pub connected_of : Core → Host → PeerId → ConnectionId → Bool → Decision
connected_of c h peer conn relayed = pick (eqb peer.0 c.source.0) (established_at c h conn relayed c.phase) (quiet_of c)

-- the circuit takes a connection while it is not Done: one from the source that is the circuit itself, or direct
unfoldable pub took_of : Core → PeerId → ConnectionId → Bool → Bool
took_of c peer conn relayed =
    both (no (is_done c.phase)) (both (eqb peer.0 c.source.0) (either (no relayed) (eqb conn.0 c.circuit.0)))

abbrev pub taking : Bool → Decision → Decision
taking took d =
    record {
      core = d.core;
      outcome = d.outcome;
      took = took;
      window = d.window;
      first = d.first;
      second = d.second;
      third = d.third;
      fourth = d.fourth;
      message = d.message;
    }

unfoldable pub up_at : Core → Host → PeerId → ConnectionId → Bool → Decision
up_at c h peer conn relayed = taking (took_of c peer conn relayed) (connected_of c h peer conn relayed)
