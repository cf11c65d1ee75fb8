-- A table as the list of its rows in use, and what is done to the list (RULES.md, section 10.1).
-- how many rows a table has room for
use Rattle.std.specs.Prelude.{ℕ, Bool, true, false, List, [], ◌∷◌, ◌++◌, map, length, eqb, ltb, leb, None, Option, Some}
use Rattle.prelude.specs.Lists.{padded, such}
use Rattle.prelude.specs.Choice.{pick, no}
use Rattle.kinds.specs.declared.Entry.{Entry}
use Rattle.kinds.specs.declared.Entry.TheVariants.{Dialed, Window, Path, Other as OtherEntry}
use Rattle.kinds.specs.declared.Row.{Row}
use Rattle.rows.specs.declared.Keep.{Keep}
use Rattle.rows.specs.declared.Keep.TheVariants.{Below, Above, Other, Lasting}
use Rattle.kinds.specs.Kinds.{entry_of}

abbrev pub capacity : ℕ
capacity = 64

-- what the first row with the key says
unfoldable pub find_in : ℕ → List Row → Option Entry
find_in k [] = None
find_in k (r ∷ rs) = pick (eqb r.key k) (Some (entry_of r)) (find_in k rs)

-- a window that has not ended at the reading; any other entry
abbrev pub lasts : ℕ → Entry → Bool
lasts now (Window until) = ltb now until
lasts now (Dialed d) = true
lasts now (Path a) = true
lasts now OtherEntry = true

abbrev pub keeps_row : Keep → Row → Bool
keeps_row (Below k) r = ltb r.key k
keeps_row (Above k) r = ltb k r.key
keeps_row (Other k) r = no (eqb r.key k)
keeps_row (Lasting now) r = lasts now (entry_of r)

abbrev pub kept : Keep → List Row → List Row
kept keep = such (keeps_row keep)

-- those that are marked, in order
unfoldable pub marked : {A : Type 0} → List Bool → List A → List A
marked [] xs = []
marked (m ∷ ms) [] = []
marked (m ∷ ms) (x ∷ xs) = pick m (x ∷ marked ms xs) (marked ms xs)

-- a mark for each row in use
unfoldable pub marks_by : (Row → Bool) → List Row → List Bool
marks_by p rs = padded capacity false (map p rs)

-- the rows of other keys
abbrev pub without : ℕ → List Row → List Row
without k = kept (Other k)

abbrev pub not_below : ℕ → Row → Bool
not_below k r = no (ltb r.key k)

-- the row between those of smaller and those of larger keys; one of its own key gives way
abbrev pub inserted : Row → List Row → List Row
inserted r rs = kept (Below r.key) rs ++ (r ∷ kept (Above r.key) rs)

-- a row for the key would be one too many
abbrev pub crowded : ℕ → List Row → Bool
crowded k rs = leb capacity (length (without k rs))
