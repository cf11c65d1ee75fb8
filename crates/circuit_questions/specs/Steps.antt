-- What the program makes of a line that it read, and of line after line (RULES.md, section 12.1, says what a line is).
use Rattle.std.specs.Prelude.{ℕ, Bool, List, [], ◌∷◌, take}
use Rattle.prelude.specs.Choice.{pick}
use Rattle.text.specs.Printed.{printed, behind}
use Rattle.line_program.specs.Reads.{has_feed}
use Rattle.line_program.specs.declared.Reading.{Reading}
use Rattle.line_program.specs.Waits.{is_line}
use Rattle.journal_calls.specs.Calls.{Journal}
use Rattle.journal_turns.specs.Turns.{line_turn}
use Rattle.circuit_questions.specs.Answers.{line_text}

-- the journal, the reply buffer, the output buffer, and how many of its bytes were handed over last
pub record State : Type 0 where
  pub journal : Journal
  pub reply : List ℕ
  pub out : List ℕ
  pub handed : ℕ

abbrev pub state : Journal → List ℕ → List ℕ → ℕ → State
state j reply out handed = record { journal = j; reply = reply; out = out; handed = handed }

-- a line is taken: its answer stands in the output buffer from the first byte on, and is handed over
unfoldable pub taking : State → List ℕ × Bool → State
taking s l =
    record {
      journal = (line_turn s.journal s.reply l.0 l.1).turn.journal;
      reply = (line_turn s.journal s.reply l.0 l.1).reply;
      out = printed s.out 0 (line_text s.journal s.reply l.0 l.1);
      handed = behind s.out 0 (line_text s.journal s.reply l.0 l.1);
    }

-- lines are taken, each on what the one before it left
unfoldable pub taken : State → List (List ℕ × Bool) → State
taken s [] = s
taken s (l ∷ rest) = taken (taking s l) rest

-- one step: the line that was read, the first bytes of its buffer, is taken; where there is none nothing changes
unfoldable pub step_of : Reading → List ℕ → State → State
step_of r line s = pick (is_line r.end r.used) (taking s (take r.used line, has_feed r.end)) s
