-- The peers that the rows of a table of dials ask for (RULES.md, section 10.4).
use Rattle.std.specs.Prelude.{List, map, Option}
use Rattle.prelude.specs.Lists.{padded}
use Rattle.rows.specs.Rows.{capacity}
use Rattle.ids.specs.declared.PeerId.{PeerId}
use Rattle.kinds.specs.declared.Row.{Row}
use Rattle.dials.specs.Dials.{asked_of}
use Rattle.ids.specs.declared.ConnectionId.{ConnectionId}
use Rattle.live_dials.specs.declared.Live.{Live}
use Rattle.live_dials.specs.First.{firsts_of}

-- one for each row; the target behind them
unfoldable pub asked_rows : List Row → PeerId → List PeerId
asked_rows rs target = padded capacity target (map (asked_of target) rs)

-- the first live connection of each
abbrev pub firsts_for : List Row → PeerId → List Live → List (Option ConnectionId)
firsts_for rs target ls = firsts_of ls (asked_rows rs target)
