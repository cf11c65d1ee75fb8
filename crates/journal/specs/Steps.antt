-- What the program makes of a line that it read, and of line after line (RULES.md, sections 12.1 and 12.7).
use Rattle.std.specs.Prelude.{ℕ, ◌*◌, Bool, false, ◌≡◌, List, [], ◌∷◌, ◌++◌, take}
use Rattle.prelude.specs.Choice.{pick}
use Rattle.text.specs.Printed.{printed, behind}
use Rattle.line_program.specs.declared.Reading.{Reading}
use Rattle.line_program.specs.Reads.{left, has_line, has_feed}
use Rattle.line_program.specs.Waits.{is_line, waiting_after, handed_after}
use Rattle.journal_prints.specs.Room.{room}
use Rattle.journal_calls.specs.Calls.{Journal}
use Rattle.journal_turns.specs.Turns.{line_turn}
use Rattle.journal_text.specs.Texts.{line_text}

-- the journal, the reply buffer, the output buffer, how many of its bytes wait, and the bytes that were handed over before them
pub record State : Type 0 where
  pub journal : Journal
  pub reply : List ℕ
  pub out : List ℕ
  pub waiting : ℕ
  pub handed : List ℕ

abbrev pub state : Journal → List ℕ → List ℕ → ℕ → List ℕ → State
state j reply out waiting handed = record { journal = j; reply = reply; out = out; waiting = waiting; handed = handed }

-- a line is answered: behind what waits stands what it prints
abbrev pub answered : State → List ℕ × Bool → State
answered s l =
    record {
      journal = (line_turn s.journal s.reply l.0 l.1).turn.journal;
      reply = (line_turn s.journal s.reply l.0 l.1).reply;
      out = printed s.out s.waiting (line_text s.journal s.reply l.0 l.1);
      waiting = behind s.out s.waiting (line_text s.journal s.reply l.0 l.1);
      handed = s.handed;
    }

-- it is taken: answered, and then what waits stays or is handed over, by whether a whole line follows it in the block
unfoldable pub taking : State → List ℕ × Bool → Bool → State
taking s l follows =
    record {
      journal = (answered s l).journal;
      reply = (answered s l).reply;
      out = (answered s l).out;
      waiting = waiting_after (4 * room) follows (answered s l).out (answered s l).waiting;
      handed = s.handed ++ handed_after (4 * room) follows (answered s l).out (answered s l).waiting;
    }

-- Lines are taken, each on what the one before it left. Whether a whole line follows each in the block is said beside them; where that
-- is not said none does.
unfoldable pub taken : State → List (List ℕ × Bool) → List Bool → State
taken s [] follow = s
taken s (l ∷ rest) [] = taken (taking s l false) rest []
taken s (l ∷ rest) (follows ∷ follow) = taken (taking s l follows) rest follow

-- one step: the line that was read, the first bytes of its buffer, is taken, by what the block has left behind it; where there is none
-- nothing changes
unfoldable pub step_of : Reading → List ℕ → List ℕ → Journal → List ℕ → List ℕ → ℕ → State
step_of s block line j reply out waiting =
    pick (is_line s.end s.used)
    (taking (state j reply out waiting []) (take s.used line, has_feed s.end) (has_line (left block s.from s.until)))
    (state j reply out waiting [])

-- what its line prints
unfoldable pub step_text : Reading → List ℕ → Journal → List ℕ → List ℕ
step_text s line j reply = pick (is_line s.end s.used) (line_text j reply (take s.used line) (has_feed s.end)) []

-- all bytes for the output so far: those handed over, and behind them those that wait
abbrev pub put : State → List ℕ
put s = s.handed ++ take s.waiting s.out

-- ---- laws

-- behind a line that no whole line follows in the block nothing waits: before the next read all that was printed is handed over
abbrev pub NothingWaits : Type 0
NothingWaits = (s : State) (l : List ℕ × Bool) → (taking s l false).waiting ≡ 0
