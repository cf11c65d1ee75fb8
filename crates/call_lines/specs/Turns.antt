-- What a line does, and what is printed of it (README.md): it is the call of the first table that has its form; the ledger's is the last. One
-- that has none is bad.
use Rattle.std.specs.Prelude.{ℕ, List, Bool, ltb, length}
use Rattle.prelude.specs.Choice.{pick, both}
use Rattle.text.specs.Words.{ascii}
use Rattle.lines.specs.Lines.{longest}
use Rattle.library_calls.specs.declared.Kept.{Kept}
use Rattle.library_calls.specs.Lines as library
use Rattle.call_table.specs.Tables.{among}
use Rattle.ledger_calls.specs.Calls.{ledger_table, ledger_turn, ledger_text}

-- what is kept after a line, the ledger's words, and the text
pub record Turn : Type 0 where
  pub kept : Kept
  pub words : List ℕ
  pub text : List ℕ

abbrev pub turn : Kept → List ℕ → List ℕ → Turn
turn kept words text = record { kept = kept; words = words; text = text }

unfoldable pub turn_of : Kept → List ℕ → List ℕ → Turn
turn_of kept words line =
    pick (library.turn_of kept line).found (turn (library.turn_of kept line).kept words (library.turn_of kept line).text)
    (pick (among ledger_table line) (turn kept (ledger_turn words line).words (ledger_text words line)) (turn kept words (ascii "bad\n")))

-- whether a line feed ended a line that is not too long with it; another is bad
abbrev pub is_whole : ℕ → Bool → Bool
is_whole size ended = both ended (ltb size longest)

unfoldable pub line_turn : Kept → List ℕ → List ℕ → Bool → Turn
line_turn kept words line ended = pick (is_whole (length line) ended) (turn_of kept words line) (turn kept words (ascii "bad\n"))
