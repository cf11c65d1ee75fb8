-- What holds of every line behind the first (RULES.md, sections 12.6 and 12.7), whatever journal it meets.
use Rattle.std.specs.Prelude.{ℕ, ◌+◌, min, ◌≡◌, Bool, List}
use Rattle.prelude.specs.Numbers.{max_u64}
use Rattle.refusal.specs.declared.Refusal.{Refusal}
use Rattle.journal_calls.specs.Calls.{Journal}
use Rattle.journal_turns.specs.Turns.{counted, line_turn}
use Rattle.journal_calls.specs.declared.Said.TheVariants.{Refused}

-- a refused line is counted, and nothing else changes, no byte of the reply buffer either
abbrev pub RefusedChangesNothing : Type 0
RefusedChangesNothing =
    (j : Journal) (reply line : List ℕ) (ended : Bool) (why : Refusal) → (line_turn j reply line ended).turn.said ≡ Refused why
    → ((line_turn j reply line ended).turn.journal ≡ counted j) × ((line_turn j reply line ended).reply ≡ reply)

-- one more with each line; a number of 64 bits goes no further than 2^64 − 1
abbrev pub EveryLineCounts : Type 0
EveryLineCounts = (j : Journal) (reply line : List ℕ) (ended : Bool) → (line_turn j reply line ended).turn.journal.n ≡ min (j.n + 1) max_u64
