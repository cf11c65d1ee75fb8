-- A window's start and its instants (RULES.md, section 9).
use Rattle.std.specs.Prelude.{ℕ, zero, suc, ◌+◌, ◌/◌, max, List, [], ◌∷◌, leb}
use Rattle.prelude.specs.Lists.{count}
use Rattle.prelude.specs.Choice.{pick}
use Rattle.time.specs.Time.{plus}

-- half of a round trip, rounded up
unfoldable pub half_of : ℕ → ℕ
half_of rtt = (rtt + 1) / 2

-- the start of the window that a reply at a reading opens
unfoldable pub start_of : ℕ → ℕ → ℕ
start_of at rtt = plus at (half_of rtt)

-- at, at + i, at + 2i, .. as far as they are at most the end, and no more than the first n of them
unfoldable pub upto : ℕ → ℕ → ℕ → ℕ → List ℕ
upto zero at i end = []
upto (suc n) at i end = pick (leb at end) (at ∷ upto n (at + i) i end) []

-- all of them: the interval counts as at least 1, so there are no more than the numbers 0 to the end
unfoldable pub instants : ℕ → ℕ → ℕ → List ℕ
instants start i end = upto (suc end) start (max i 1) end

-- how many of a list of instants are no later than a reading
unfoldable pub count_to : ℕ → List ℕ → ℕ
count_to at ts = count (λ t. leb t at) ts
