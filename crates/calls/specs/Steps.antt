-- What the program makes of a line that it read (RULES.md, section 12.1, says what a line is).
use Rattle.std.specs.Prelude.{ℕ, List, [], take}
use Rattle.prelude.specs.Choice.{pick}
use Rattle.line_program.specs.Reads.{has_feed}
use Rattle.line_program.specs.declared.Reading.{Reading}
use Rattle.line_program.specs.Waits.{is_line}
use Rattle.call_lines.specs.Turns.{Turn, turn, line_turn}
use Rattle.library_calls.specs.declared.Kept.{Kept}

-- the line that was read is the first bytes of its buffer; where there is none nothing changes and nothing is printed
unfoldable pub step_of : Reading → List ℕ → Kept → List ℕ → Turn
step_of s line kept words = pick (is_line s.end s.used) (line_turn kept words (take s.used line) (has_feed s.end)) (turn kept words [])
