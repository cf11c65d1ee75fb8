-- A round is wanted (RULES.md, section 11.4).
use Rattle.std.specs.Prelude.{ℕ, Bool, false, eqb, None, Option, Some}
use Rattle.prelude.specs.Choice.{pick, both}
use Rattle.ids.specs.declared.ConnectionId.{ConnectionId}
use Rattle.budget.specs.declared.UpgradeBudget.{UpgradeBudget}
use Rattle.budget.specs.Budget.{may_begin, begun, ended}
use Rattle.vocabulary.specs.declared.Host.{Host}
use Rattle.vocabulary.specs.declared.Effect.TheVariants.{Open}
use Rattle.circuit.specs.declared.state.Core.{Core}
use Rattle.circuit.specs.declared.decision.Fate.TheVariants.{Kept, Removed}
use Rattle.circuit.specs.declared.decision.Said.{Said}
use Rattle.circuit.specs.declared.decision.Decision.{Decision}
use Rattle.circuit.specs.State.{done_of, exchanging_of}
use Rattle.circuit.specs.Decisions.{decided_of}
use Rattle.ids.specs.declared.StreamId.{StreamId}

unfoldable pub is_live : ConnectionId → Option ConnectionId → Bool
is_live circuit None = false
is_live circuit (Some conn) = eqb conn.0 circuit.0

-- a round is not had: the upgrade is over, and the source's ledger window goes
unfoldable pub no_round : Core → Said → Decision
no_round c s = decided_of (done_of c) Removed s None

abbrev pub open_stream : Core → UpgradeBudget → ℕ → Said → Option (ConnectionId × StreamId) → Decision
open_stream c b at s None = no_round c s
open_stream c b at s (Some (conn, stream)) = decided_of (exchanging_of c (begun b at) conn stream) Kept s (Some (Open conn stream))

-- the source's live connection is the circuit, a round is left before the deadline, and there is a stream
unfoldable pub open_round : Core → UpgradeBudget → Host → Said → Decision
open_round c b h s = pick (both (is_live c.circuit h.live) (may_begin b h.at)) (open_stream c b h.at s h.offer) (no_round c s)

unfoldable pub fail_round : Core → Host → Said → Decision
fail_round c h s = open_round c (ended c.budget) h s
