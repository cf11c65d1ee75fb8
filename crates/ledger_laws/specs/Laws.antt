-- What the laws of the ledger say (RULES.md, section 10.7).
-- the three tables are ascending, with one row for each key
use Rattle.std.specs.Prelude.{◌≡◌, Bool, true, false, List, [], ◌∷◌, eqb, length, ℕ, None, Option, Some}
use Rattle.rows.specs.Rows.{find_in}
use Rattle.prelude.specs.Choice.{both, no}
use Rattle.ids.specs.declared.PeerId.{PeerId}
use Rattle.ids.specs.declared.ConnectionId.{ConnectionId}
use Rattle.ids.specs.declared.ConnectId.{ConnectId}
use Rattle.path.specs.declared.Path.TheVariants.{Relayed, Punched, Direct}
use Rattle.path.specs.declared.Owner.{Owner}
use Rattle.path.specs.declared.Owner.TheVariants.{Attempt, Inbound}
use Rattle.path.specs.declared.Attribution.{Attribution}
use Rattle.path.specs.declared.DialPurpose.TheVariants.{Punch}
use Rattle.path.specs.declared.Claim.{Claim}
use Rattle.path.specs.declared.Claim.TheVariants.{Circuit, Direct as DirectClaim}
use Rattle.kinds.specs.declared.Row.{Row}
use Rattle.rows.specs.Ascending.{Ascending}
use Rattle.ledger.specs.Ledger.{PathLedger, dials_of, windows_of, paths_of}
use Rattle.ledger_laws.specs.Calls.{Call}
use Rattle.ledger_laws.specs.Calls.Call.{dial_start, dial_finish, dials_abort, punches_expect, punches_end, tick, attribute, forget}
use Rattle.path.specs.declared.Dial.{Dial}

pub record InOrder (l : PathLedger) : Type 0 where
  pub dials_ascend : Ascending (dials_of l)
  pub windows_ascend : Ascending (windows_of l)
  pub paths_ascend : Ascending (paths_of l)

-- the dial found is a punch dial of the attempt
abbrev pub PunchDial : ConnectId → Option Dial → Type 0
PunchDial id None = ⊥
PunchDial id (Some dial) = dial.purpose ≡ Punch id

-- why a connection has its name: exactly one of five cases
pub data Why (circuit : Bool) (dial : Option Dial) (claim : Option Claim) (lasting : Bool) : Attribution → Type 0 where
  relayed : {relay : PeerId} {owner : Option Owner} → circuit ≡ true → claim ≡ Some (Circuit relay owner) → Why circuit dial claim lasting (record { path = Relayed relay; owner = owner })
  by_punch_dial : {id : ConnectId} → circuit ≡ false → PunchDial id dial → Why circuit dial claim lasting (record { path = Punched; owner = Some (Attempt id) })
  by_attempt : {id : ConnectId} → circuit ≡ false → ((i : ConnectId) → PunchDial i dial → ⊥) → claim ≡ Some (DirectClaim id)
      → Why circuit dial claim lasting (record { path = Direct; owner = Some (Attempt id) })
  by_window : circuit ≡ false → ((i : ConnectId) → PunchDial i dial → ⊥) → ((i : ConnectId) → claim ≡ Some (DirectClaim i) → ⊥) → lasting ≡ true
      → Why circuit dial claim lasting (record { path = Punched; owner = Some Inbound })
  otherwise : circuit ≡ false → ((i : ConnectId) → PunchDial i dial → ⊥) → ((i : ConnectId) → claim ≡ Some (DirectClaim i) → ⊥) → lasting ≡ false
      → Why circuit dial claim lasting (record { path = Direct; owner = None })

-- the call neither attributes nor forgets the connection
unfoldable pub spares : ConnectionId → Call → Bool
spares conn (dial_start other token purpose) = true
spares conn (dial_finish other) = true
spares conn (dials_abort id target first) = true
spares conn (punches_expect peer until) = true
spares conn (punches_end peer) = true
spares conn (tick now) = true
spares conn (attribute other peer circuit claim now) = no (eqb conn.0 other.0)
spares conn (forget other) = no (eqb conn.0 other.0)

unfoldable pub spares_all : ConnectionId → List Call → Bool
spares_all conn [] = true
spares_all conn (c ∷ cs) = both (spares conn c) (spares_all conn cs)

-- the row is one of the list
pub data In (r : Row) : List Row → Type 0 where
  here : {x : Row} {rs : List Row} → r ≡ x → In r (x ∷ rs)
  there : {x : Row} {rs : List Row} → In r rs → In r (x ∷ rs)

-- a row for the key would be the 65th: 64 stand there, and none has the key
abbrev pub Needs65 : ℕ → List Row → Type 0
Needs65 k rs = (length rs ≡ 64) × (find_in k rs ≡ None)
