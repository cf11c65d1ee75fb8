-- Dropping the dials of an attempt (RULES.md, section 10.4).
-- ---- the live connections
-- the peer to ask for: the relay of a relay dial, else the attempt's target
use Rattle.std.specs.Prelude.{ℕ, Bool, true, false, List, [], ◌∷◌, ◌++◌, map, length, replicate, set, take, ◌+◌, eqb, None, Option, Some}
use Rattle.prelude.specs.Lists.{padded}
use Rattle.prelude.specs.Choice.{pick}
use Rattle.ids.specs.declared.PeerId.{PeerId}
use Rattle.ids.specs.declared.ConnectionId.{ConnectionId}
use Rattle.ids.specs.declared.ConnectId.{ConnectId}
use Rattle.ids.specs.declared.NatToken.{NatToken}
use Rattle.path.specs.declared.DialPurpose.{DialPurpose}
use Rattle.path.specs.declared.DialPurpose.TheVariants.{Relay, Punch, Probe, Reserve}
use Rattle.path.specs.declared.Dial.{Dial}
use Rattle.kinds.specs.declared.Entry.{Entry}
use Rattle.kinds.specs.declared.Entry.TheVariants.{Other as OtherEntry, Dialed, Window, Path as PathEntry}
use Rattle.kinds.specs.declared.Row.{Row}
use Rattle.kinds.specs.Kinds.{entry_of}
use Rattle.rows.specs.Rows.{capacity}
use Rattle.dials.specs.declared.Fate.{Fate}
use Rattle.dials.specs.declared.Fate.TheVariants.{Stays, Goes, Closes}
use Rattle.dials.specs.declared.Column.{Column}
use Rattle.dials.specs.declared.Dropped.{Dropped}

unfoldable pub asked_by : DialPurpose → PeerId → PeerId
asked_by (Relay attempt relay) target = relay
asked_by (Punch attempt) target = target
asked_by (Probe peer) target = target
asked_by (Reserve peer) target = target

abbrev pub asked_entry : Entry → PeerId → PeerId
asked_entry OtherEntry target = target
asked_entry (Dialed dial) target = asked_by dial.purpose target
asked_entry (Window end) target = target
asked_entry (PathEntry attribution) target = target

unfoldable pub asked_of : PeerId → Row → PeerId
asked_of target row = asked_entry (entry_of row) target

-- what is found for a row
unfoldable pub first_for : PeerId → (PeerId → Option ConnectionId) → Row → Option ConnectionId
first_for target first row = first (asked_of target row)

-- nothing found for any row
abbrev pub no_firsts : List (Option ConnectionId)
no_firsts = replicate capacity None

-- ---- what becomes of a dial
unfoldable pub is_first : Option ConnectionId → ℕ → Bool
is_first (Some first) conn = eqb first.0 conn
is_first None conn = false

-- of the attempt's dials, and no others: a live punch dial keeps its row, a live relay dial loses it, any other is closed too
abbrev pub fate_by : DialPurpose → ConnectId → Bool → NatToken → Option Fate
fate_by (Relay attempt relay) id live token = pick (eqb attempt.0 id.0) (Some (pick live (Goes token) (Closes token))) None
fate_by (Punch attempt) id live token = pick (eqb attempt.0 id.0) (Some (pick live (Stays token) (Closes token))) None
fate_by (Probe peer) id live token = None
fate_by (Reserve peer) id live token = None

unfoldable pub fate_of : ConnectId → Bool → Dial → Option Fate
fate_of id live dial = fate_by dial.purpose id live dial.token

abbrev pub fate_entry : Entry → ConnectId → Bool → Option Fate
fate_entry OtherEntry id live = None
fate_entry (Dialed dial) id live = fate_of id live dial
fate_entry (Window end) id live = None
fate_entry (PathEntry attribution) id live = None

unfoldable pub fate_at : ConnectId → Row → Option ConnectionId → Option Fate
fate_at id row first = fate_entry (entry_of row) id (is_first first row.key)

-- its row stays
unfoldable pub stays : Option Fate → Bool
stays None = true
stays (Some (Stays token)) = true
stays (Some (Goes token)) = false
stays (Some (Closes token)) = false

-- ---- what is left, retired and closed
abbrev pub left_by : Row → Option Fate → List Row
left_by row None = row ∷ []
left_by row (Some (Stays token)) = row ∷ []
left_by row (Some (Goes token)) = []
left_by row (Some (Closes token)) = []

abbrev pub retired_by : Option Fate → List NatToken
retired_by None = []
retired_by (Some (Stays token)) = token ∷ []
retired_by (Some (Goes token)) = token ∷ []
retired_by (Some (Closes token)) = token ∷ []

abbrev pub closed_by : Row → Option Fate → List ConnectionId
closed_by row None = []
closed_by row (Some (Stays token)) = []
closed_by row (Some (Goes token)) = []
closed_by row (Some (Closes token)) = (record { 0 = row.key }) ∷ []

-- what each gives, in order
unfoldable pub each : {A B : Type 0} → (A → List B) → List A → List B
each f [] = []
each f (x ∷ xs) = f x ++ each f xs

unfoldable pub pairs : {A B : Type 0} → List A → List B → List (A × B)
pairs [] bs = []
pairs (a ∷ as') [] = []
pairs (a ∷ as') (b ∷ bs) = (a, b) ∷ pairs as' bs

-- the first 64 of the values, and fill behind them
unfoldable pub column_of : {A : Type 0} → A → List A → Column A
column_of fill xs = record { values = padded capacity fill (take capacity xs); count = length (take capacity xs) }

-- one value more
abbrev pub pushed : {A : Type 0} → Column A → A → Column A
pushed column x = record { values = set column.values column.count x; count = column.count + 1 }

abbrev pub no_token : NatToken
no_token = record { 0 = 0 }

abbrev pub no_connection : ConnectionId
no_connection = record { 0 = 0 }

-- of a row and what is found for it
abbrev pub left_of : ConnectId → Row × Option ConnectionId → List Row
left_of id p = left_by p.0 (fate_at id p.0 p.1)

abbrev pub retired_of : ConnectId → Row × Option ConnectionId → List NatToken
retired_of id p = retired_by (fate_at id p.0 p.1)

abbrev pub closed_of : ConnectId → Row × Option ConnectionId → List ConnectionId
closed_of id p = closed_by p.0 (fate_at id p.0 p.1)

-- a mark for each row: whether it stays
unfoldable pub staying : ConnectId → List (Row × Option ConnectionId) → List Bool
staying id ps = padded capacity false (map (λ (p : Row × Option ConnectionId). stays (fate_at id p.0 p.1)) ps)

unfoldable pub abort_with : ConnectId → List (Row × Option ConnectionId) → Dropped
abort_with id ps = record { retired = column_of no_token (each (retired_of id) ps); close = column_of no_connection (each (closed_of id) ps) }

-- each row with what is found for it
abbrev pub with_firsts : PeerId → (PeerId → Option ConnectionId) → List Row → List (Row × Option ConnectionId)
with_firsts target first rs = map (λ (r : Row). (r, first_for target first r)) rs
