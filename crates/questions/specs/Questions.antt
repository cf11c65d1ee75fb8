-- What a circuit answers when it is asked (RULES.md, section 11.9).
use Rattle.std.specs.Prelude.{min, Bool, true, eqb, None, Option, Some, ℕ}
use Rattle.prelude.specs.Choice.{pick, both, no}
use Rattle.ids.specs.declared.ConnectionId.{ConnectionId}
use Rattle.path.specs.declared.Claim.{Claim}
use Rattle.path.specs.declared.Claim.TheVariants as claim
use Rattle.path.specs.declared.Owner.TheVariants.{Inbound}
use Rattle.budget.specs.Budget.{next_deadline}
use Rattle.schedule.specs.Schedule.{next_of}
use Rattle.circuit.specs.declared.state.Core.{Core}
use Rattle.circuit.specs.declared.state.Phase.{Phase}
use Rattle.circuit.specs.declared.state.Phase.TheVariants.{Handshaking, Exchange, Punching, Done}
use Rattle.circuit.specs.State.{is_done}

abbrev pub promoted : Phase → Bool
promoted (Handshaking deadline) = true
promoted (Exchange conn stream count connect) = true
promoted (Punching until q) = true
promoted (Done p) = p

unfoldable pub promotes_of : Core → ConnectionId → Bool
promotes_of c conn = both (eqb conn.0 c.circuit.0) (promoted c.phase)

unfoldable pub claim_of : Core → ConnectionId → Option Claim
claim_of c conn =
    pick (both (eqb conn.0 c.circuit.0) (no (is_done c.phase))) (Some (claim.Circuit c.relay (Some Inbound))) None

abbrev pub next_deadline_at : Core → Phase → Option ℕ
next_deadline_at c (Handshaking end) = Some end
next_deadline_at c (Exchange conn stream count connect) = Some (next_deadline c.budget)
next_deadline_at c (Punching until q) = Some (min (pick (eqb c.targets 0) until (next_of q until)) (next_deadline c.budget))
next_deadline_at c (Done promoted) = None
