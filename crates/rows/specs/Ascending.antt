-- Rows in ascending order of their keys (RULES.md, section 10.1).
use Rattle.std.specs.Prelude.{ℕ, ◌<◌, List, [], ◌∷◌}
use Rattle.kinds.specs.declared.Row.{Row}

-- the number is below every row's key
pub data Below (k : ℕ) : List Row → Type 0 where
  none : Below k []
  more : {r : Row} {rs : List Row} → k < r.key → Below k rs → Below k (r ∷ rs)

-- ascending, so one row for each key
pub data Ascending : List Row → Type 0 where
  none : Ascending []
  more : {r : Row} {rs : List Row} → Below r.key rs → Ascending rs → Ascending (r ∷ rs)
