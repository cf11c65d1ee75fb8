-- What the program does with the bytes that it reads. Which bytes a read brings, and whether bytes that were handed over are written, no
-- definition can say: the first have a name here, and their place.
use Rattle.std.specs.Prelude.{ℕ, ◌≡◌, Option, List, [], ◌∷◌, ◌++◌, length}
use Rattle.prelude.specs.Choice.{pick}
use Rattle.line_program.specs.declared.End.{End}
use Rattle.line_program.specs.Reads.{left, feed, has_feed}
use Rattle.call_lines.specs.Turns.{Turn, turn, line_turn}
use Rattle.line_program.specs.Waits.{is_line}
use Rattle.library_calls.specs.declared.Kept.{Kept}
use Rattle.calls.specs.declared.Step.{Step}

-- what a step read: bytes without a line feed, and why they end
pub record Got : Type 0 where
  pub text : List ℕ
  pub end : Option End

-- what it makes of them
unfoldable pub got_turn : Kept → List ℕ → Got → Turn
got_turn kept words g = pick (is_line g.end (length g.text)) (line_turn kept words g.text (has_feed g.end)) (turn kept words [])

-- What steps read, the last first: their bytes in the order of the input, and what they make of them, each on what the one before it left.
unfoldable pub bytes_of : List Got → List ℕ
bytes_of [] = []
bytes_of (g ∷ earlier) = bytes_of earlier ++ (g.text ++ feed (has_feed g.end))

unfoldable pub taken : Kept → List ℕ → List Got → Turn
taken kept words [] = turn kept words []
taken kept words (g ∷ earlier) = got_turn (taken kept words earlier).kept (taken kept words earlier).words g

-- Of the bytes that reads brought each was read by one step, or is left in the block.
pub record Ran (kept : Kept) (words block : List ℕ) (kept' : Kept) (words' : List ℕ) (s : Step) : Type 0 where
  pub brought : List ℕ
  pub steps : List Got
  pub whole : brought ≡ bytes_of steps ++ left block s.reading.from s.reading.until
  pub keeps : kept' ≡ (taken kept words steps).kept
  pub leaves : words' ≡ (taken kept words steps).words
