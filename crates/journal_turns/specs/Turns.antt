-- What a journal's lines do (RULES.md, sections 12.1, 12.5 and 12.6): each is counted and read, and its call is made.
use Rattle.std.specs.Prelude.{ℕ, ◌*◌, ◌<◌, ◌≤◌, Bool, true, false, List, ltb, length, None, Option, Some}
use Rattle.time.specs.Time.{plus}
use Rattle.prelude.specs.Choice.{pick, both, no}
use Rattle.text.specs.Hexadecimal.{bytes_of}
use Rattle.lines.specs.Lines.{longest}
use Rattle.forms.specs.Texts.{part}
use Rattle.refusal.specs.declared.Refusal.TheVariants.{UnknownLine, NotStarted}
use Rattle.vocabulary.specs.declared.Host.{Host}
use Rattle.journal_lines.specs.Lines.{line_of}
use Rattle.journal_lines.specs.declared.Digits.{Digits}
use Rattle.journal_lines.specs.declared.Line.{Line}
use Rattle.journal_lines.specs.declared.Line.TheVariants.{Start, Up, Input, Tick, Wrote, Down, Dial, Forget, Attribute}
use Rattle.circuit.specs.declared.state.Core.{Core}
use Rattle.journal_calls.specs.declared.State.{State}
use Rattle.journal_calls.specs.declared.Running.{Running}
use Rattle.journal_calls.specs.Calls.{Journal, Turned, refused, start_turn, up_turn, Taken, input_turn, tick_turn, wrote_turn, down_turn, dial_turn, forget_turn, attribute_turn}
use Rattle.ids.specs.declared.ConnectionId.{ConnectionId}
use Rattle.ids.specs.declared.StreamId.{StreamId}

-- the journal's numbers with its circuit
abbrev pub running_in : State → Core → Running
running_in s c = record { n = s.n; settings = s.settings; core = c }

-- ---- what a line hands to its call (section 12.5)

-- the bytes that the digits at a place of the line stand for
abbrev pub digits_bytes : List ℕ → Digits → List ℕ
digits_bytes line d = bytes_of (part line d.start d.end)

-- whether so many bytes are room for those of any digits of a line
abbrev pub IsRoom : ℕ → List ℕ → Type 0
IsRoom n line = (length line < 2 * n) × (2 * n ≤ longest)

-- the host's answers: a reading, the live connection, the offer
unfoldable pub host_of : ℕ → Option ConnectionId → Option (ConnectionId × StreamId) → Host
host_of at l o = record { at = at; live = l; offer = o }

-- ---- a line

-- no call but input touches the reply buffer
abbrev pub apart : List ℕ → Turned → Taken
apart reply t = record { turn = t; reply = reply }

-- a call by what the line says; a line of no known form is refused with 11
abbrev pub call_turn : List ℕ → Journal → List ℕ → Option Line → Taken
call_turn line j reply (Some (Start at source relay conn)) = apart reply (start_turn j at source relay conn)
call_turn line j reply (Some (Up at peer conn relayed l o pending own)) =
    apart reply (up_turn j (host_of at l o) (digits_bytes line own) peer conn relayed)
call_turn line j reply (Some (Input at stream k bytes l o pending own)) =
    input_turn j (host_of at l o) (digits_bytes line own) reply stream k (digits_bytes line bytes) pending
call_turn line j reply (Some (Tick at l o own)) = apart reply (tick_turn j (host_of at l o) (digits_bytes line own))
call_turn line j reply (Some (Wrote at conn stream)) = apart reply (wrote_turn j at conn stream)
call_turn line j reply (Some (Down at peer conn)) = apart reply (down_turn j conn)
call_turn line j reply (Some (Dial at conn token id)) = apart reply (dial_turn j conn token id)
call_turn line j reply (Some (Forget at conn)) = apart reply (forget_turn j conn)
call_turn line j reply (Some (Attribute at peer conn relayed)) = apart reply (attribute_turn j at peer conn relayed)
call_turn line j reply None = apart reply (refused j UnknownLine)

-- any call but start needs an accepted start before it (section 12.6); a line of no known form is no call
abbrev pub needs_start : Option Line → Bool
needs_start (Some (Start at source relay conn)) = false
needs_start (Some (Up at peer conn relayed l o pending own)) = true
needs_start (Some (Input at stream k bytes l o pending own)) = true
needs_start (Some (Tick at l o own)) = true
needs_start (Some (Wrote at conn stream)) = true
needs_start (Some (Down at peer conn)) = true
needs_start (Some (Dial at conn token id)) = true
needs_start (Some (Forget at conn)) = true
needs_start (Some (Attribute at peer conn relayed)) = true
needs_start None = false

-- before a start was accepted what needs one is refused with 12, whatever its own refusals; 11 is given before and behind it
unfoldable pub turn_of : List ℕ → Journal → List ℕ → Option Line → Taken
turn_of line j reply call =
    pick (both (needs_start call) (no j.begun)) (apart reply (refused j NotStarted)) (call_turn line j reply call)

-- what a line says: nothing known without a line feed, or where it is too long with it
unfoldable pub read : List ℕ → Bool → Option Line
read line ended = pick (both ended (ltb (length line) longest)) (line_of line) None

-- one line more; n stays at the largest number (section 12.7)
unfoldable pub counted : Journal → Journal
counted j =
    record {
      n = plus j.n 1;
      begun = j.begun;
      settings = j.settings;
      circuit = j.circuit;
      ledger = j.ledger;
      words = j.words;
      sent = j.sent;
    }

-- a line behind the first: it is counted, and its call is made
unfoldable pub line_turn : Journal → List ℕ → List ℕ → Bool → Taken
line_turn j reply line ended = turn_of line (counted j) reply (read line ended)
