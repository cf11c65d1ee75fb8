-- What the program does with the bytes that it reads. Which bytes a read brings, and whether bytes that were handed over are written, no
-- definition can say: the first have a name here, and their place.
use Rattle.std.specs.Prelude.{ℕ, ◌<◌, ◌≡◌, Bool, true, false, List, [], ◌++◌, eqb, length}
use Rattle.prelude.specs.Choice.{pick, both}
use Rattle.text.specs.Printed.{printed, behind}
use Rattle.line_program.specs.Reads.{left, has_more, has_failed}
use Rattle.journal_calls.specs.Calls.{Journal}
use Rattle.journal_calls.specs.declared.State.{State as Numbers}
use Rattle.journal_text.specs.Texts.{is_good, opened, opening_text}
use Rattle.journal_text.specs.Journals.{lines_of, bytes_of, endless, first_in, behind_first, unread}
use Rattle.circuit_questions.specs.declared.Ending.{Ending}
use Rattle.circuit_questions.specs.Steps.{State, state, taken}

-- ---- the lines behind the first

-- The block had these bytes left. With those that reads brought they are the lines that were taken, then those of a line in which
-- reading failed, then what the block has left: none is lost, none taken twice.
pub record Ran (before : State) (had block : List ℕ) (lent : Numbers → Journal) (reply out : List ℕ) (e : Ending) : Type 0 where
  pub brought : List ℕ
  pub lines : List (List ℕ × Bool)
  pub unfinished : List ℕ
  pub whole : had ++ brought ≡ bytes_of lines ++ (unfinished ++ left block e.reading.from e.reading.until)
  -- they are cut as the rule says (section 12.1)
  pub cut : lines_of (bytes_of lines) ≡ lines
  -- each was taken on what the one before it left: with some numbers what is lent is the journal behind them
  pub numbers : Numbers
  pub makes : state (lent numbers) reply out e.handed ≡ taken before lines
  -- it stopped where reading or writing failed, or else at the input's end, where no byte is left
  pub stopped : e.written ≡ true → has_failed e.reading.end ≡ false → length (bytes_of lines) < endless
      → (has_more e.reading.end ≡ false) × (unfinished ++ left block e.reading.from e.reading.until ≡ [])
  -- writing fails only where a line was answered
  pub unwritten : lines ≡ [] → e.written ≡ true

-- ---- the whole input

-- behind a good first line the others are taken; another prints what it is refused with (section 12.4); before it nothing is printed
unfoldable pub replayed : Bool → List ℕ → List ℕ → List (List ℕ × Bool) → State
replayed failed reply out lines =
    pick (unread failed lines) (state (opened (first_in lines)) reply out 0)
    (pick (is_good (first_in lines)) (taken (state (opened (first_in lines)) reply out 0) (behind_first lines))
    (state (opened (first_in lines)) reply (printed out 0 (opening_text (first_in lines))) (behind out 0 (opening_text (first_in lines)))))

-- whether nothing is printed: there is no first line yet, or a good one alone
abbrev pub quiet : Bool → List (List ℕ × Bool) → Bool
quiet failed lines = pick (unread failed lines) true (both (is_good (first_in lines)) (eqb (length (behind_first lines)) 0))

-- The bytes that reads brought are the lines that were taken, then those of a line in which reading failed, then what the block has left.
pub record Replayed (reply out block : List ℕ) (lent : Numbers → Journal) (reply' out' : List ℕ) (e : Ending) : Type 0 where
  pub brought : List ℕ
  pub lines : List (List ℕ × Bool)
  pub unfinished : List ℕ
  pub whole : brought ≡ bytes_of lines ++ (unfinished ++ left block e.reading.from e.reading.until)
  pub cut : lines_of (bytes_of lines) ≡ lines
  -- behind a first line that is not good none is taken (section 12.4)
  pub alone : is_good (first_in lines) ≡ false → behind_first lines ≡ []
  pub numbers : Numbers
  pub makes : state (lent numbers) reply' out' e.handed ≡ replayed (has_failed e.reading.end) reply out lines
  -- it stopped where reading or writing failed, at a first line that is not good, or else at the input's end, where no byte is left
  pub stopped : e.written ≡ true → has_failed e.reading.end ≡ false → length (bytes_of lines) < endless → is_good (first_in lines) ≡ true
      → (has_more e.reading.end ≡ false) × (unfinished ++ left block e.reading.from e.reading.until ≡ [])
  -- writing fails only where something is printed
  pub unwritten : quiet (has_failed e.reading.end) lines ≡ true → e.written ≡ true
