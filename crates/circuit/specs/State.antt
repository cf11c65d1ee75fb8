-- What a circuit chooses by, and the circuit in another phase (RULES.md, sections 7 and 11.1).
use Rattle.std.specs.Prelude.{ℕ, Bool, true, false}
use Rattle.ids.specs.declared.ConnectionId.{ConnectionId}
use Rattle.ids.specs.declared.StreamId.{StreamId}
use Rattle.budget.specs.declared.UpgradeBudget.{UpgradeBudget}
use Rattle.schedule.specs.declared.BlastSchedule.{BlastSchedule}
use Rattle.vocabulary.specs.declared.Settings.{Settings}
use Rattle.candidates.specs.Selection.{usually}
use Rattle.candidates.specs.declared.Terms.{Terms}
use Rattle.circuit.specs.declared.state.Core.{Core}
use Rattle.circuit.specs.declared.state.Phase.{Phase}
use Rattle.circuit.specs.declared.state.Phase.TheVariants.{Handshaking, Exchange, Punching, Done}
use Rattle.circuit.specs.declared.state.ConnectWrite.TheVariants.{Unsent}

-- the usual limits, and private targets by the settings
abbrev pub terms_of : Settings → Terms
terms_of s = usually s.private

-- with another phase, budget and number of target bytes
abbrev pub in_state : Core → Phase → UpgradeBudget → ℕ → Core
in_state c p b targets =
    record {
      source = c.source;
      relay = c.relay;
      circuit = c.circuit;
      settings = c.settings;
      phase = p;
      budget = b;
      connect = c.connect;
      targets = targets;
    }

unfoldable pub in_phase : Core → Phase → Core
in_phase c p = in_state c p c.budget c.targets

unfoldable pub done_of : Core → Core
done_of c = in_phase c (Done true)

-- a round's exchange that has had no input yet
unfoldable pub exchanging_of : Core → UpgradeBudget → ConnectionId → StreamId → Core
exchanging_of c b conn stream = in_state c (Exchange conn stream 0 Unsent) b c.targets

-- the window of a reply (section 9)
unfoldable pub punching_of : Core → UpgradeBudget → ℕ → BlastSchedule → ℕ → Core
punching_of c b until q targets = in_state c (Punching until q) b targets

abbrev pub is_done : Phase → Bool
is_done (Handshaking deadline) = false
is_done (Exchange conn stream count connect) = false
is_done (Punching until q) = false
is_done (Done promoted) = true
