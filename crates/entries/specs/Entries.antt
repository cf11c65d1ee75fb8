-- What the rows of a table say of a key (RULES.md, sections 10.1 and 10.3). A row of another kind counts as none.
use Rattle.std.specs.Prelude.{ℕ, Bool, false, List, [], ◌∷◌, ltb, None, Option, Some}
use Rattle.prelude.specs.Choice.{pick}
use Rattle.ids.specs.declared.PeerId.{PeerId}
use Rattle.ids.specs.declared.ConnectionId.{ConnectionId}
use Rattle.kinds.specs.declared.Entry.{Entry}
use Rattle.kinds.specs.declared.Entry.TheVariants.{Other, Dialed, Window, Path as PathEntry}
use Rattle.kinds.specs.declared.Row.{Row}
use Rattle.kinds.specs.Kinds.{entry_of}
use Rattle.rows.specs.Rows.{find_in}
use Rattle.path.specs.declared.Attribution.{Attribution}
use Rattle.path.specs.declared.Dial.{Dial}

unfoldable pub dial_of : Entry → Option Dial
dial_of Other = None
dial_of (Dialed dial) = Some dial
dial_of (Window end) = None
dial_of (PathEntry attribution) = None

unfoldable pub path_of : Entry → Option Attribution
path_of Other = None
path_of (Dialed dial) = None
path_of (Window end) = None
path_of (PathEntry attribution) = Some attribution

unfoldable pub end_of : Entry → Option ℕ
end_of Other = None
end_of (Dialed dial) = None
end_of (Window end) = Some end
end_of (PathEntry attribution) = None

-- what is read of the entry that is found, or `none`
abbrev pub read_as : {A : Type 0} → (Entry → A) → A → Option Entry → A
read_as read none None = none
read_as read none (Some entry) = read entry

unfoldable pub dial_at : ConnectionId → List Row → Option Dial
dial_at conn rs = read_as dial_of None (find_in conn.0 rs)

unfoldable pub path_at : ConnectionId → List Row → Option Attribution
path_at conn rs = read_as path_of None (find_in conn.0 rs)

unfoldable pub end_at : PeerId → List Row → Option ℕ
end_at peer rs = read_as end_of None (find_in peer.0 rs)

-- a window lasts while the reading is below its end
abbrev pub lasts : ℕ → Option ℕ → Bool
lasts now (Some end) = ltb now end
lasts now None = false

unfoldable pub window_open : PeerId → ℕ → List Row → Bool
window_open peer now rs = lasts now (end_at peer rs)

-- the later of the two ends
abbrev pub later : ℕ → Option ℕ → ℕ
later until (Some end) = pick (ltb end until) until end
later until None = until

unfoldable pub punch_end : PeerId → ℕ → List Row → ℕ
punch_end peer until rs = later until (end_at peer rs)

unfoldable pub sooner : Option ℕ → Option ℕ → Option ℕ
sooner None b = b
sooner (Some x) None = Some x
sooner (Some x) (Some y) = Some (pick (ltb y x) y x)

-- the smallest end of a window
unfoldable pub soonest : List Row → Option ℕ
soonest [] = None
soonest (r ∷ rs) = sooner (end_of (entry_of r)) (soonest rs)
