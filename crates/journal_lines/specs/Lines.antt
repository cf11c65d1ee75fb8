-- What a journal's lines say (RULES.md, sections 12.4 and 12.5), from the words that their values are handed out as (`words_of` of forms):
-- a number v is v; a number or none is 1 v, or 0 0; a pair or none is 1 a b, or 0 0 0; a word its place in the choice; bytes the start and
-- the end of their digits in the line.
use Rattle.std.specs.Prelude.{ℕ, List, [], ◌∷◌, Bool, get_or, eqb, None, Option, Some}
use Rattle.prelude.specs.Choice.{pick, either}
use Rattle.forms.specs.Forms.{read_form}
use Rattle.forms.specs.Tables.{Entry, tried, said}
use Rattle.vocabulary.specs.declared.StreamInput.{StreamInput}
use Rattle.vocabulary.specs.declared.StreamInput.TheVariants as input
use Rattle.journal_lines.specs.Forms.{settings_form, start_form, up_form, input_form, tick_form, wrote_form, down_form, dial_form, forget_form, attribute_form}
use Rattle.journal_lines.specs.declared.Line.{Line}
use Rattle.journal_lines.specs.declared.Line.TheVariants.{Start, Up, Input, Tick, Wrote, Down, Dial, Forget, Attribute}
use Rattle.ids.specs.declared.ConnectionId.{ConnectionId}
use Rattle.ids.specs.declared.StreamId.{StreamId}
use Rattle.vocabulary.specs.declared.Settings.{Settings}

-- ---- values

abbrev pub word : List ℕ → ℕ → ℕ
word ws i = get_or ws i 0

-- whether the second of two words was chosen
abbrev pub is_second : ℕ → Bool
is_second k = eqb k 1

abbrev pub live_of : ℕ → ℕ → Option ConnectionId
live_of given conn = pick (eqb given 0) None (Some (record { 0 = conn }))

abbrev pub offer_of : ℕ → ℕ → ℕ → Option (ConnectionId × StreamId)
offer_of given conn stream = pick (eqb given 0) None (Some (record { 0 = conn }, record { 0 = stream }))

-- ready, data, end, closed
abbrev pub kind_of : ℕ → StreamInput
kind_of k = pick (eqb k 0) input.Ready (pick (eqb k 1) input.Data (pick (eqb k 2) input.RemoteWriteClosed input.Closed))

-- ---- the first line

abbrev pub settings_in : List ℕ → Settings
settings_in ws =
    record {
      handshake = word ws 0;
      upgrade = word ws 1;
      exchange = word ws 2;
      punch = word ws 3;
      interval = word ws 4;
      payload = word ws 5;
      private = is_second (word ws 6);
      upgrades = is_second (word ws 7);
    }

unfoldable pub settings_of : List ℕ → Option Settings
settings_of line = tried (read_form settings_form line) (λ ws. Some (settings_in ws)) None

-- ---- the calls

abbrev pub start_of : List ℕ → Line
start_of ws = Start (word ws 0) (record { 0 = word ws 1 }) (record { 0 = word ws 2 }) (record { 0 = word ws 3 })

abbrev pub up_of : List ℕ → Line
up_of ws =
    Up (word ws 0) (record { 0 = word ws 1 }) (record { 0 = word ws 2 }) (is_second (word ws 3)) (live_of (word ws 4) (word ws 5)) (offer_of (word ws 6) (word ws 7) (word ws 8)) (is_second (word ws 9)) (record { start = word ws 10; end = word ws 11 })

-- only the kind data, the second, may have bytes: none end where they start
abbrev pub may_have_bytes : List ℕ → Bool
may_have_bytes ws = either (is_second (word ws 2)) (eqb (word ws 3) (word ws 4))

abbrev pub input_of : List ℕ → Option Line
input_of ws =
    pick (may_have_bytes ws)
    (Some (Input (word ws 0) (record { 0 = word ws 1 }) (kind_of (word ws 2)) (record { start = word ws 3; end = word ws 4 }) (live_of (word ws 5) (word ws 6)) (offer_of (word ws 7) (word ws 8) (word ws 9)) (is_second (word ws 10)) (record { start = word ws 11; end = word ws 12 }))) None

abbrev pub tick_of : List ℕ → Line
tick_of ws =
    Tick (word ws 0) (live_of (word ws 1) (word ws 2)) (offer_of (word ws 3) (word ws 4) (word ws 5)) (record { start = word ws 6; end = word ws 7 })

abbrev pub wrote_of : List ℕ → Line
wrote_of ws = Wrote (word ws 0) (record { 0 = word ws 1 }) (record { 0 = word ws 2 })

abbrev pub down_of : List ℕ → Line
down_of ws = Down (word ws 0) (record { 0 = word ws 1 }) (record { 0 = word ws 2 })

abbrev pub dial_of : List ℕ → Line
dial_of ws = Dial (word ws 0) (record { 0 = word ws 1 }) (record { 0 = word ws 2 }) (record { 0 = word ws 3 })

abbrev pub forget_of : List ℕ → Line
forget_of ws = Forget (word ws 0) (record { 0 = word ws 1 })

abbrev pub attribute_of : List ℕ → Line
attribute_of ws = Attribute (word ws 0) (record { 0 = word ws 1 }) (record { 0 = word ws 2 }) (is_second (word ws 3))

abbrev pub calls : List (Entry (Option Line))
calls =
    record { form = start_form; means = λ ws. Some (start_of ws) }
    ∷ record { form = up_form; means = λ ws. Some (up_of ws) }
    ∷ record { form = input_form; means = input_of }
    ∷ record { form = tick_form; means = λ ws. Some (tick_of ws) }
    ∷ record { form = wrote_form; means = λ ws. Some (wrote_of ws) }
    ∷ record { form = down_form; means = λ ws. Some (down_of ws) }
    ∷ record { form = dial_form; means = λ ws. Some (dial_of ws) }
    ∷ record { form = forget_form; means = λ ws. Some (forget_of ws) }
    ∷ record { form = attribute_form; means = λ ws. Some (attribute_of ws) } ∷ []

-- a line of none of these forms is unknown
unfoldable pub line_of : List ℕ → Option Line
line_of line = said None calls line
