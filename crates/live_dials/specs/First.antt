-- A peer's first live connection, over a list of records (RULES.md, section 10.4).
-- the record is one of the peer
use Rattle.std.specs.Prelude.{Bool, List, [], ◌∷◌, map, eqb, None, Option, Some}
use Rattle.prelude.specs.Choice.{pick}
use Rattle.ids.specs.declared.PeerId.{PeerId}
use Rattle.live_dials.specs.declared.Live.{Live}
use Rattle.ids.specs.declared.ConnectionId.{ConnectionId}

abbrev pub is_peer : Live → PeerId → Bool
is_peer l p = eqb l.peer.0 p.0

-- a peer's first live connection: that of the first record that has the peer
unfoldable pub first_live : List Live → PeerId → Option ConnectionId
first_live [] p = None
first_live (l ∷ ls) p = pick (is_peer l p) (Some l.connection) (first_live ls p)

abbrev pub no_peer : PeerId
no_peer = record { 0 = 0 }

-- the first live connection of each peer asked for
abbrev pub firsts_of : List Live → List PeerId → List (Option ConnectionId)
firsts_of ls = map (first_live ls)
