-- What the program does, from the bytes that it read to those that it printed (RULES.md, section 12). Two things no definition can say:
-- which bytes a read brings, and whether bytes that were handed over are written. The first have a name here, and their place.
use Rattle.std.specs.Prelude.{ℕ, ◌<◌, ◌≡◌, Bool, true, false, List, [], ◌++◌, length}
use Rattle.prelude.specs.Choice.{pick}
use Rattle.text.specs.Printed.{printed, behind}
use Rattle.line_program.specs.Reads.{left, has_line, has_more, has_failed}
use Rattle.journal_calls.specs.Calls.{Journal}
use Rattle.journal_calls.specs.declared.State.{State as Numbers}
use Rattle.journal_text.specs.Texts.{is_good, opened, opening_text}
use Rattle.journal_text.specs.Journals.{lines_of, bytes_of, lines_text, text_of, journal_text, endless, first_in, behind_first, unread}
use Rattle.journal.specs.declared.Ending.{Ending}
use Rattle.journal.specs.Steps.{State, state, taken, put}

-- ---- the lines behind the first

-- The block had these bytes left. With those that reads brought they are the lines that were taken, then those of a line in which
-- reading failed, then what the block has left: none is lost, none taken twice.
pub record Ran (before : State) (had block : List ℕ) (lent : Numbers → Journal) (reply out : List ℕ) (e : Ending) : Type 0 where
  pub brought : List ℕ
  pub lines : List (List ℕ × Bool)
  -- whether a whole line followed each in the block: which bytes each read brought decides that
  pub follow : List Bool
  pub told : length follow ≡ length lines
  pub unfinished : List ℕ
  pub whole : had ++ brought ≡ bytes_of lines ++ (unfinished ++ left block e.reading.from e.reading.until)
  -- they are cut as the rule says (section 12.1)
  pub cut : lines_of (bytes_of lines) ≡ lines
  -- each was taken on what the one before it left: with some numbers what is lent is the journal behind them; and all that they print was
  -- handed over or waits
  pub numbers : Numbers
  pub journals : lent numbers ≡ (taken before lines follow).journal
  pub replies : reply ≡ (taken before lines follow).reply
  pub prints : out ≡ (taken before lines follow).out
  pub waits : e.waiting ≡ (taken before lines follow).waiting
  pub text : put (taken before lines follow) ≡ lines_text before.journal before.reply lines
  -- it stopped where reading or writing failed, or else at the input's end, where no byte is left
  pub stopped : e.written ≡ true → has_failed e.reading.end ≡ false → length (bytes_of lines) < endless
      → (has_more e.reading.end ≡ false) × (unfinished ++ left block e.reading.from e.reading.until ≡ [])
  -- writing fails only where something was handed over
  pub unwritten : e.written ≡ false → (taken before lines follow).handed ≡ [] → ⊥
  -- where the block has no whole line left nothing waits
  pub live : has_line (left block e.reading.from e.reading.until) ≡ false → e.waiting ≡ 0

-- ---- the whole input

-- behind a good first line the others are taken; another prints what it is refused with (section 12.4); before it nothing is printed
unfoldable pub replayed : Bool → List ℕ → List ℕ → List (List ℕ × Bool) → List Bool → State
replayed failed reply out lines follow =
    pick (unread failed lines) (state (opened (first_in lines)) reply out 0 [])
    (pick (is_good (first_in lines)) (taken (state (opened (first_in lines)) reply out 0 []) (behind_first lines) follow)
    (state (opened (first_in lines)) reply (printed out 0 (opening_text (first_in lines))) (behind out 0 (opening_text (first_in lines))) []))

-- The bytes that reads brought are the lines that were taken, then those of a line in which reading failed, then what the block has left.
-- Behind a first line that is not good none is taken (section 12.4).
pub record Replayed (reply out block : List ℕ) (lent : Numbers → Journal) (reply' out' : List ℕ) (e : Ending) : Type 0 where
  pub brought : List ℕ
  pub lines : List (List ℕ × Bool)
  -- whether a whole line followed each behind the first in the block
  pub follow : List Bool
  pub told : length follow ≡ length (behind_first lines)
  pub unfinished : List ℕ
  pub whole : brought ≡ bytes_of lines ++ (unfinished ++ left block e.reading.from e.reading.until)
  pub cut : lines_of (bytes_of lines) ≡ lines
  pub numbers : Numbers
  pub journals : lent numbers ≡ (replayed (has_failed e.reading.end) reply out lines follow).journal
  pub replies : reply' ≡ (replayed (has_failed e.reading.end) reply out lines follow).reply
  pub prints : out' ≡ (replayed (has_failed e.reading.end) reply out lines follow).out
  pub waits : e.waiting ≡ (replayed (has_failed e.reading.end) reply out lines follow).waiting
  -- all that they print was handed over or waits
  pub text : put (replayed (has_failed e.reading.end) reply out lines follow) ≡ pick (unread (has_failed e.reading.end) lines) [] (text_of lines)
  -- it stopped where reading or writing failed, at a first line that is not good, or else at the input's end, where no byte is left
  pub stopped : e.written ≡ true → has_failed e.reading.end ≡ false → length (bytes_of lines) < endless → is_good (first_in lines) ≡ true
      → (has_more e.reading.end ≡ false) × (unfinished ++ left block e.reading.from e.reading.until ≡ [])
  pub unwritten : e.written ≡ false → (replayed (has_failed e.reading.end) reply out lines follow).handed ≡ [] → ⊥
  pub live : is_good (first_in lines) ≡ true → has_line (left block e.reading.from e.reading.until) ≡ false → e.waiting ≡ 0
  -- So where nothing failed it printed what the rule says of all bytes that were read.
  pub all : e.written ≡ true → has_failed e.reading.end ≡ false → length (bytes_of lines) < endless
      → put (replayed (has_failed e.reading.end) reply out lines follow) ≡ journal_text brought
