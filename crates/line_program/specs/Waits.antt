-- Which lines are answered, and when what they print is written (RULES.md, sections 12.1 and 12.7).
use Rattle.std.specs.Prelude.{ℕ, ◌+◌, Bool, true, false, Option, Some, None, List, [], ltb, leb, length, take}
use Rattle.prelude.specs.Choice.{pick, both}
use Rattle.line_program.specs.declared.End.{End}
use Rattle.line_program.specs.declared.End.TheVariants.{LineFeed, Input, Failure}

-- whether a line was read: a line feed ended it, or some bytes stand before the input's end
abbrev pub is_line : Option End → ℕ → Bool
is_line None used = ltb 0 used
is_line (Some LineFeed) used = true
is_line (Some Input) used = ltb 0 used
is_line (Some Failure) used = false

-- Whether bytes that wait in an output buffer of so many bytes stay there: a whole line follows in the block, so that the next step reads
-- none, and they leave the room that a line's output needs.
abbrev pub stays : (room : ℕ) → Bool → ℕ → ℕ → Bool
stays room follows size waiting = both follows (leb (waiting + room) size)

-- the bytes that wait from then on: all or none
unfoldable pub waiting_after : (room : ℕ) → Bool → List ℕ → ℕ → ℕ
waiting_after room follows out waiting = pick (stays room follows (length out) waiting) waiting 0

-- what does not stay is handed over to be written
unfoldable pub handed_after : (room : ℕ) → Bool → List ℕ → ℕ → List ℕ
handed_after room follows out waiting = pick (stays room follows (length out) waiting) [] (take waiting out)
