-- What up, input and tick are refused for (RULES.md, section 11.3).
use Rattle.std.specs.Prelude.{Bool, false, List, ℕ, eqb, Err, None, Ok, Option, Result, Some, ⊤}
use Rattle.prelude.specs.Choice.{pick, both}
use Rattle.ids.specs.declared.ConnectionId.{ConnectionId}
use Rattle.ids.specs.declared.StreamId.{StreamId}
use Rattle.refusal.specs.declared.Refusal.TheVariants.{BrokenList, OfferInUse}
use Rattle.wire.specs.Lists.{broken}
use Rattle.circuit.specs.declared.state.Phase.{Phase}
use Rattle.circuit.specs.declared.state.Phase.TheVariants.{Handshaking, Exchange, Punching, Done}
use Rattle.refusal.specs.declared.Refusal.{Refusal}

abbrev pub in_use_of : ConnectionId → StreamId → Option (ConnectionId × StreamId) → Bool
in_use_of conn stream None = false
in_use_of conn stream (Some (at, on)) = both (eqb conn.0 at.0) (eqb stream.0 on.0)

-- the offered stream is the one that an exchange runs on
unfoldable pub in_use : Phase → Option (ConnectionId × StreamId) → Bool
in_use (Handshaking deadline) o = false
in_use (Exchange conn stream count connect) o = in_use_of conn stream o
in_use (Punching until q) o = false
in_use (Done promoted) o = false

unfoldable pub check_of : Phase → Option (ConnectionId × StreamId) → List ℕ → Result ⊤ Refusal
check_of p o own = pick (broken own) (Err BrokenList) (pick (in_use p o) (Err OfferInUse) (Ok tt))
