-- What a form means: the text of its values, and which values a form has (RULES.md, section 12.3).
use Rattle.std.specs.Prelude.{ℕ, ◌+◌, ◌-◌, ◌≤◌, ◌≡◌, List, [], ◌∷◌, ◌++◌, Bool, true, false, length, take, drop, get_or, eqb, Some}
use Rattle.prelude.specs.Choice.{pick, no, both}
use Rattle.text.specs.Words.{ascii, length_before}
use Rattle.prelude.specs.Numbers.{max_u64}
use Rattle.text.specs.Decimal.{decimal}
use Rattle.text.specs.Hexadecimal.{bytes_of, bytes_text, Bytes}
use Rattle.forms.specs.Forms.{kind_of, is_literal, opens, choice, split, which_word, Reading, Good, Bad, read_form}
use Rattle.forms.specs.declared.Kind.{Kind}
use Rattle.forms.specs.declared.Kind.TheVariants as kind
use Rattle.forms.specs.declared.Words.TheVariants as words

-- what stands in a line in place of a mark
pub data Value : Type 0 where
  number : ℕ → Value
  some : ℕ → Value
  absent : Value
  pair : ℕ → ℕ → Value
  unpaired : Value
  bytes : List ℕ → Value
  word : ℕ → Value

-- a word of a choice, by its place
abbrev pub word_at : List ℕ → ℕ → List ℕ
word_at ch k = get_or (split ch) k []

-- a value's text
unfoldable pub value_text : List ℕ → Value → List ℕ
value_text ch (number v) = decimal v
value_text ch (some v) = decimal v
value_text ch absent = ascii "none"
value_text ch (pair a b) = decimal a ++ (ascii ":" ++ decimal b)
value_text ch unpaired = ascii "none"
value_text ch (bytes s) = bytes_text s
value_text ch (word k) = word_at ch k

abbrev pub first_text : List ℕ → List Value → List ℕ
first_text ch [] = []
first_text ch (v ∷ vs) = value_text ch v

-- the text of a form's values in their order
unfoldable pub text_from : Bool → List ℕ → List Value → List ℕ
text_from within [] vs = []
text_from true (b ∷ form) vs = text_from (no (eqb b 41)) form vs
text_from false (b ∷ form) vs =
    pick (is_literal (kind_of b)) (b ∷ text_from false form vs) (first_text (choice (kind_of b) form) vs ++ text_from (opens (kind_of b)) form (drop 1 vs))

unfoldable pub text : List ℕ → List Value → List ℕ
text form vs = text_from false form vs

-- ---- which values a form has

-- the text of the words of a `*` and of a `:`
abbrev pub maybe_text : ℕ → ℕ → List ℕ
maybe_text given v = pick (eqb given 0) (ascii "none") (decimal v)

abbrev pub pair_text : ℕ → ℕ → ℕ → List ℕ
pair_text given a b = pick (eqb given 0) (ascii "none") (decimal a ++ (ascii ":" ++ decimal b))

unfoldable pub kind_of_value : Value → Kind
kind_of_value (number v) = kind.Number
kind_of_value (some v) = kind.Maybe
kind_of_value absent = kind.Maybe
kind_of_value (pair a b) = kind.Pair
kind_of_value unpaired = kind.Pair
kind_of_value (bytes s) = kind.Bytes
kind_of_value (word k) = kind.Choice

-- a number of 64 bits; a list of bytes; a word that is in the choice, the first such, and holds no space
unfoldable pub InRange : List ℕ → Value → Type 0
InRange ch (number v) = v ≤ max_u64
InRange ch (some v) = v ≤ max_u64
InRange ch absent = Unit
InRange ch (pair a b) = (a ≤ max_u64) × (b ≤ max_u64)
InRange ch unpaired = Unit
InRange ch (bytes s) = Bytes s
InRange ch (word k) = (which_word 0 (split ch) (word_at ch k) ≡ Some (words.One k)) × (length_before 32 (word_at ch k) ≡ length (word_at ch k))

abbrev pub FirstFits : Kind → List ℕ → List Value → Type 0
FirstFits k ch [] = ⊥
FirstFits k ch (v ∷ vs) = (kind_of_value v ≡ k) × InRange ch v

abbrev pub Either : Bool → Type 0 → Type 0 → Type 0
Either true a b = a
Either false a b = b

unfoldable pub FitsFrom : Bool → List ℕ → List Value → Type 0
FitsFrom within [] [] = Unit
FitsFrom within [] (v ∷ vs) = ⊥
FitsFrom true (b ∷ form) vs = FitsFrom (no (eqb b 41)) form vs
FitsFrom false (b ∷ form) vs =
    Either (is_literal (kind_of b)) (FitsFrom false form vs) (FirstFits (kind_of b) (choice (kind_of b) form) vs × FitsFrom (opens (kind_of b)) form (drop 1 vs))

unfoldable pub Fits : List ℕ → List Value → Type 0
Fits form vs = FitsFrom false form vs

-- ---- forms in which each value ends at a space or at the form's end

abbrev pub spaced : Bool → List ℕ → Bool
spaced within [] = true
spaced true (b ∷ form) = spaced (no (eqb b 41)) form
spaced false (b ∷ form) = eqb b 32

unfoldable pub is_form_from : Bool → List ℕ → Bool
is_form_from within [] = true
is_form_from true (b ∷ form) = is_form_from (no (eqb b 41)) form
is_form_from false (b ∷ form) =
    both (pick (is_literal (kind_of b)) true (spaced (opens (kind_of b)) form)) (is_form_from (opens (kind_of b)) form)

unfoldable pub is_form : List ℕ → Bool
is_form form = is_form_from false form

-- ---- the values that words stand for; bytes are gotten from the two numbers of their place

abbrev pub width : Kind → ℕ
width kind.Literal = 0
width kind.Number = 1
width kind.Maybe = 2
width kind.Pair = 3
width kind.Bytes = 2
width kind.Choice = 1

unfoldable pub value_in : (ℕ → ℕ → List ℕ) → Kind → List ℕ → Value
value_in get kind.Literal ws = absent
value_in get kind.Number ws = number (get_or ws 0 0)
value_in get kind.Maybe ws = pick (eqb (get_or ws 0 0) 0) absent (some (get_or ws 1 0))
value_in get kind.Pair ws = pick (eqb (get_or ws 0 0) 0) unpaired (pair (get_or ws 1 0) (get_or ws 2 0))
value_in get kind.Bytes ws = bytes (get (get_or ws 0 0) (get_or ws 1 0))
value_in get kind.Choice ws = word (get_or ws 0 0)

unfoldable pub values_from : (ℕ → ℕ → List ℕ) → Bool → List ℕ → List ℕ → List Value
values_from get within [] ws = []
values_from get true (b ∷ form) ws = values_from get (no (eqb b 41)) form ws
values_from get false (b ∷ form) ws =
    pick (is_literal (kind_of b)) (values_from get false form ws)
    (value_in get (kind_of b) ws ∷ values_from get (opens (kind_of b)) form (drop (width (kind_of b)) ws))

-- how many words a form's values have
unfoldable pub count_from : Bool → List ℕ → ℕ
count_from within [] = 0
count_from true (b ∷ form) = count_from (no (eqb b 41)) form
count_from false (b ∷ form) = width (kind_of b) + count_from (opens (kind_of b)) form

-- how many spaces a text has, and a form outside of its words
unfoldable pub spaces : List ℕ → ℕ
spaces [] = 0
spaces (b ∷ s) = pick (eqb b 32) 1 0 + spaces s

unfoldable pub spaces_from : Bool → List ℕ → ℕ
spaces_from within [] = 0
spaces_from true (b ∷ form) = spaces_from (no (eqb b 41)) form
spaces_from false (b ∷ form) = pick (eqb b 32) 1 0 + spaces_from (opens (kind_of b)) form

-- the bytes of a text from a place up to another
abbrev pub part : List ℕ → ℕ → ℕ → List ℕ
part s start end = take (end - start) (drop start s)

-- with bytes of a source
unfoldable pub values_in : List ℕ → List ℕ → List ℕ → List Value
values_in source form ws = values_from (part source) false form ws

-- the values that a line is read as: its bytes are those that its digits stand for
abbrev pub valued : List ℕ → List ℕ → Reading (List ℕ) → Reading (List Value)
valued form line (Good ws) = Good (values_from (λ start end. bytes_of (part line start end)) false form ws)
valued form line Bad = Bad

unfoldable pub values_of : List ℕ → List ℕ → Reading (List Value)
values_of form line = valued form line (read_form form line)
