-- A table of calls is text (README.md, "Changing something"): a row for each call, with line feeds, 10, between. A row is the call's form,
-- and behind it the form of each of its answers, with bars, 124, between.
use Rattle.std.specs.Prelude.{ℕ, suc, Bool, List, [], ◌∷◌, ◌++◌, eqb, leb, length, get_or, replicate, None, Option, Some}
use Rattle.std.specs.Option.{is_some}
use Rattle.prelude.specs.Choice.{pick}
use Rattle.text.specs.Words.{ascii}
use Rattle.text.specs.Hexadecimal.{bytes_of}
use Rattle.text.specs.Printed.{printed}
use Rattle.lines.specs.Lines.{longest}
use Rattle.forms.specs.Forms.{Reading, Good, Bad, read_form}
use Rattle.forms.specs.Texts.{text, values_in, part}
use Rattle.call_table.specs.declared.Call.{Call}
use Rattle.call_table.specs.declared.Said.{Said}

-- ---- the parts of a text

-- parts of which the first has a byte more in front
abbrev pub on_first : ℕ → List (List ℕ) → List (List ℕ)
on_first b [] = (b ∷ []) ∷ []
on_first b (part ∷ parts) = (b ∷ part) ∷ parts

-- the parts between separators; none stands behind a last one
unfoldable pub parts : ℕ → List ℕ → List (List ℕ)
parts separator [] = []
parts separator (b ∷ s) = pick (eqb b separator) ([] ∷ parts separator s) (on_first b (parts separator s))

-- an empty one where there are fewer
abbrev pub part_at : ℕ → List ℕ → ℕ → List ℕ
part_at separator s k = get_or (parts separator s) k []

abbrev pub row_text : List ℕ → ℕ → List ℕ
row_text table k = part_at 10 table k

-- a row's fields: its call's form is the field 0, its answers' follow
abbrev pub field_of : List ℕ → ℕ → List ℕ
field_of row j = part_at 124 row j

-- ---- the call of a line

abbrev pub no_words : List ℕ
no_words = replicate 8 0

-- a line's words, the first eight, and zeros behind them
abbrev pub tried_by : Reading (List ℕ) → Option (List ℕ)
tried_by (Good ws) = Some (printed no_words 0 ws)
tried_by Bad = None

unfoldable pub words_by : List ℕ → List ℕ → Option (List ℕ)
words_by row line = tried_by (read_form (field_of row 0) line)

abbrev pub call_by : ℕ → Option (List ℕ) → Option Call → Option Call
call_by k (Some words) rest = Some (record { row = k; words = words })
call_by k None rest = rest

-- the first of the rows from a place on whose form the line has
unfoldable pub call_from : List ℕ → ℕ → List (List ℕ) → Option Call
call_from line k [] = None
call_from line k (row ∷ rows) = call_by k (words_by row line) (call_from line (suc k) rows)

unfoldable pub call_of : List ℕ → List ℕ → Option Call
call_of table line = call_from line 0 (parts 10 table)

-- ---- a call's bytes: those that the line's digits from a place up to another stand for, where they are no more than a line's

unfoldable pub blank : List ℕ
blank = replicate longest 0

unfoldable pub bytes_in : List ℕ → ℕ → ℕ → List ℕ
bytes_in line start end = pick (leb (length (part line start end)) longest) (bytes_of (part line start end)) []

-- ---- an answer: which of the row's, its words, and the bytes that it shows

unfoldable pub no_bytes : List ℕ
no_bytes = replicate 8192 0

-- its line, by a row's fields
unfoldable pub said_by : List ℕ → Said → List ℕ
said_by row said = text (field_of row said.answer) (values_in said.bytes (field_of row said.answer) said.words) ++ ascii "\n"

abbrev pub said_text : List ℕ → ℕ → Said → List ℕ
said_text table row said = said_by (row_text table row) said

-- with bytes and without, and with no words
abbrev pub none : List ℕ
none = replicate 6 0

abbrev pub shows : ℕ → List ℕ → List ℕ → Said
shows answer words bytes = record { answer = answer; words = words; bytes = bytes }

abbrev pub says : ℕ → List ℕ → Said
says answer words = shows answer words no_bytes

abbrev pub yes_said : Bool → Said
yes_said holds = pick holds (says 1 none) (says 2 none)

-- ---- a line by a table

-- whether it has one of the forms
abbrev pub among : List ℕ → List ℕ → Bool
among table line = is_some (call_of table line)

abbrev pub made : {A : Type 0} → A → (Call → A) → Option Call → A
made other make None = other
made other make (Some call) = make call

-- what its call makes; the other where it is none
unfoldable pub turn_by : {A : Type 0} → List ℕ → A → (Call → A) → List ℕ → A
turn_by table other turn line = made other turn (call_of table line)

-- what is printed of it: what is said of its call, and nothing where it is none
abbrev pub text_by : List ℕ → (Call → Said) → List ℕ → List ℕ
text_by table said line = turn_by table [] (λ call. said_text table call.row (said call)) line
