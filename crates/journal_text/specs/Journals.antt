-- What a whole journal prints (RULES.md, section 12): from the bytes of the input to those of the output.
use Rattle.std.specs.Prelude.{ℕ, zero, suc, ◌<◌, ◌≤◌, ◌≡◌, Bool, true, false, List, [], ◌∷◌, ◌++◌, eqb, ltb, length, take, drop, replicate, Option}
use Rattle.prelude.specs.Choice.{pick}
use Rattle.text.specs.Words.{length_before}
use Rattle.wire.specs.Frame.{max_frame_size}
use Rattle.line_program.specs.Reads.{feed}
use Rattle.lines.specs.Lines.{longest}
use Rattle.journal_calls.specs.Calls.{Journal}
use Rattle.journal_turns.specs.Turns.{line_turn}
use Rattle.journal_text.specs.Texts.{first_of, is_good, opened, opening_text, line_text}
use Rattle.vocabulary.specs.declared.Settings.{Settings}

-- the first n lines of an input, each without its line feed, and whether it has one (section 12.1): a line goes up to its line feed, the
-- byte 10; bytes behind the last line feed are a line without one
unfoldable pub cut : ℕ → List ℕ → List (List ℕ × Bool)
cut zero input = []
cut (suc n) input =
    pick (eqb (length input) 0) []
    ((take (length_before 10 input) input, ltb (length_before 10 input) (length input)) ∷ cut n (drop (suc (length_before 10 input)) input))

-- there are never more lines than bytes
abbrev pub lines_of : List ℕ → List (List ℕ × Bool)
lines_of input = cut (length input) input

-- the bytes of lines, each with its line feed where it has one
unfoldable pub bytes_of : List (List ℕ × Bool) → List ℕ
bytes_of [] = []
bytes_of (l ∷ rest) = (l.0 ++ feed l.1) ++ bytes_of rest

-- the lines behind the first, each on what the one before it left
unfoldable pub lines_text : Journal → List ℕ → List (List ℕ × Bool) → List ℕ
lines_text j reply [] = []
lines_text j reply (l ∷ rest) =
    line_text j reply l.0 l.1 ++ lines_text (line_turn j reply l.0 l.1).turn.journal (line_turn j reply l.0 l.1).reply rest

-- the reply buffer has 4,098 bytes, zero at first (section 12.5)
unfoldable pub opening : Option Settings → List (List ℕ × Bool) → List ℕ
opening f rest = pick (is_good f) (lines_text (opened f) (replicate max_frame_size 0) rest) (opening_text f)

-- an input without a line has no good first line
abbrev pub text_of : List (List ℕ × Bool) → List ℕ
text_of [] = opening (first_of [] false) []
text_of (first ∷ rest) = opening (first_of first.0 first.1) rest

unfoldable pub journal_text : List ℕ → List ℕ
journal_text input = text_of (lines_of input)

-- ---- what a program took of an input

-- 2^63 − 1: no run takes so many bytes
abbrev pub endless : ℕ
endless = 9223372036854775807

-- what the first line says; an input without a line has no good one
abbrev pub first_in : List (List ℕ × Bool) → Option Settings
first_in [] = first_of [] false
first_in (first ∷ rest) = first_of first.0 first.1

abbrev pub behind_first : List (List ℕ × Bool) → List (List ℕ × Bool)
behind_first [] = []
behind_first (first ∷ rest) = rest

-- whether reading failed before the first line was there
abbrev pub unread : Bool → List (List ℕ × Bool) → Bool
unread failed [] = failed
unread failed (first ∷ rest) = false

-- ---- laws

-- bytes without a line feed, then a line feed: a line and the lines behind it. Bytes without a line feed alone are a line without one
pub record LineByLine : Type 0 where
  pub ended : (text rest : List ℕ) → length_before 10 text ≡ length text → lines_of (text ++ (10 ∷ rest)) ≡ (text, true) ∷ lines_of rest
  pub last : (text : List ℕ) → length_before 10 text ≡ length text → 0 < length text → lines_of text ≡ (text, false) ∷ []

abbrev pub LongLinesAreOne : Type 0
LongLinesAreOne =
    (j : Journal) (reply line : List ℕ) (ended : Bool) (n : ℕ) → longest ≤ length line → longest ≤ n
    → line_turn j reply (take n line) ended ≡ line_turn j reply line ended
