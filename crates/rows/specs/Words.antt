-- The three tables as words (RULES.md, section 10.9). Every list of words has a meaning.
use Rattle.std.specs.Prelude.{ℕ, zero, suc, ◌+◌, ◌*◌, ◌-◌, List, [], ◌∷◌, ◌++◌, length, take, drop, get_or, replicate, eqb}
use Rattle.prelude.specs.Lists.{such}
use Rattle.prelude.specs.Choice.{pick}
use Rattle.kinds.specs.declared.Row.{Row}
use Rattle.rows.specs.declared.Table.{Table}
use Rattle.rows.specs.declared.Table.TheVariants.{Dials, Windows, Paths}
use Rattle.rows.specs.declared.Keep.TheVariants.{Below}
use Rattle.rows.specs.Rows.{capacity, kept, not_below, inserted, crowded}

abbrev pub at : List ℕ → ℕ → ℕ
at ws i = get_or ws i 0

-- ---- rows one behind the other
-- five words are a row
abbrev pub first_row : List ℕ → Row
first_row ws = record { key = at ws 0; kind = at ws 1; a = at ws 2; b = at ws 3; c = at ws 4 }

unfoldable pub rows_in : ℕ → List ℕ → List Row
rows_in zero ws = []
rows_in (suc n) ws = first_row ws ∷ rows_in n (drop 5 ws)

unfoldable pub words_of : List Row → List ℕ
words_of [] = []
words_of (r ∷ rs) = r.key ∷ r.kind ∷ r.a ∷ r.b ∷ r.c ∷ words_of rs

abbrev pub no_row : Row
no_row = record { key = 0; kind = 0; a = 0; b = 0; c = 0 }

-- ---- a table that begins at b: the count of its rows in use, and its places
-- the count, and five words for each row
abbrev pub table_words : ℕ
table_words = 1 + 5 * capacity

abbrev pub start_of : Table → ℕ
start_of Dials = 0
start_of Windows = table_words
start_of Paths = 2 * table_words

abbrev pub ledger_words : ℕ
ledger_words = 3 * table_words

unfoldable pub places_of : ℕ → List ℕ → List Row
places_of b l = rows_in capacity (drop (b + 1) l)

-- the rows in use: the first `count`, and of a count past the capacity all
abbrev pub rows_from : ℕ → List ℕ → List Row
rows_from b l = take (at l b) (places_of b l)

abbrev pub rows_of : Table → List ℕ → List Row
rows_of t l = rows_from (start_of t) l

-- the words with this count and these places in the table
unfoldable pub tabled : ℕ → ℕ → List Row → List ℕ → List ℕ
tabled b count places l = take b l ++ ((count ∷ words_of places) ++ drop (b + table_words) l)

-- the places with these rows in front
abbrev pub filled : List Row → List Row → List Row
filled rs ps = rs ++ drop (length rs) ps

-- ---- other rows in use
-- the count stays as it is where as many rows are in use as before
abbrev pub count_word : ℕ → ℕ → ℕ → ℕ
count_word count used now = pick (eqb used now) count now

-- the rows in front; the places that become free are zeros, and the others stay as they are
unfoldable pub laid_from : ℕ → List Row → List ℕ → List ℕ
laid_from b rs l =
    tabled b (count_word (at l b) (length (rows_from b l)) (length rs)) (filled (rs ++ replicate (length (rows_from b l) - length rs) no_row) (places_of b l)) l

abbrev pub laid : Table → List Row → List ℕ → List ℕ
laid t rs l = laid_from (start_of t) rs l

-- the row inserted where there is room for it
abbrev pub entered : Row → List Row → List Row
entered r rs = pick (crowded r.key rs) rs (inserted r rs)

-- ---- moves
-- the row at k comes to i; those from i on, up to it, move one up
unfoldable pub brought : List Row → ℕ → ℕ → List Row
brought ps i k = take i ps ++ (get_or ps k no_row ∷ (drop i (take k ps) ++ drop (suc k) ps))

-- of the first n places, the rows below the key come first
unfoldable pub divided : ℕ → ℕ → List Row → List Row
divided k n ps = (kept (Below k) (take n ps) ++ such (not_below k) (take n ps)) ++ drop n ps
