-- How a line is read by its form (RULES.md, sections 12.2 and 12.3). A form is a line's own text with a mark in place of each value:
-- `#` a number, `*` a number or `none`, `:` a pair or `none`, `%` bytes, `(a/b/c)` one of the words a, b, c. Any other byte stands
-- for itself. A value goes up to the next space, 32, or the line's end.
use Rattle.std.specs.Prelude.{ℕ, suc, ◌+◌, ◌≡◌, List, [], ◌∷◌, ◌++◌, Bool, true, false, length, take, drop, eqb, leb, ltb, None, Option, Some}
use Rattle.prelude.specs.Choice.{pick, no}
use Rattle.text.specs.Words.{ascii, begins, is_word, length_before}
use Rattle.text.specs.Decimal.{decimal_of}
use Rattle.text.specs.Hexadecimal.{is_hexadecimal}
use Rattle.text.specs.Printed.{printed}
use Rattle.forms.specs.declared.Kind.{Kind}
use Rattle.forms.specs.declared.Kind.TheVariants as kind
use Rattle.forms.specs.declared.Words.{Words}
use Rattle.forms.specs.declared.Words.TheVariants as words

-- ---- the marks

unfoldable pub kind_of : ℕ → Kind
kind_of b =
    pick (eqb b 35) kind.Number
    (pick (eqb b 42) kind.Maybe (pick (eqb b 58) kind.Pair (pick (eqb b 37) kind.Bytes (pick (eqb b 40) kind.Choice kind.Literal))))

abbrev pub is_literal : Kind → Bool
is_literal kind.Literal = true
is_literal kind.Number = false
is_literal kind.Maybe = false
is_literal kind.Pair = false
is_literal kind.Bytes = false
is_literal kind.Choice = false

-- whether words follow, up to `)`, 41
abbrev pub opens : Kind → Bool
opens kind.Literal = false
opens kind.Number = false
opens kind.Maybe = false
opens kind.Pair = false
opens kind.Bytes = false
opens kind.Choice = true

-- those words, from the form behind the mark
abbrev pub choice_length : Kind → List ℕ → ℕ
choice_length k form = pick (opens k) (length_before 41 form) 0

abbrev pub choice : Kind → List ℕ → List ℕ
choice k form = take (choice_length k form) form

-- the place behind them and their `)`, where they end at c in a form of a size
abbrev pub behind_choice : Kind → ℕ → ℕ → ℕ
behind_choice k c size = pick (opens k) (pick (ltb c size) (c + 1) c) c

-- how many bytes of a form stand for themselves, up to the first mark
unfoldable pub literals : List ℕ → ℕ
literals [] = 0
literals (b ∷ form) = pick (is_literal (kind_of b)) (suc (literals form)) 0

-- words with slashes, 47, between
unfoldable pub on_first : ℕ → List (List ℕ) → List (List ℕ)
on_first b [] = (b ∷ []) ∷ []
on_first b (w ∷ ws) = (b ∷ w) ∷ ws

unfoldable pub split : List ℕ → List (List ℕ)
unfolding on_first
split [] = [] ∷ []
split (b ∷ s) = pick (eqb b 47) ([] ∷ split s) (on_first b (split s))

-- ---- a value's words: the numbers that it is handed out as

abbrev pub number_words : Option ℕ → Option Words
number_words (Some v) = Some (words.One v)
number_words None = None

-- a number, or `none`
abbrev pub some_words : Option ℕ → Option Words
some_words (Some v) = Some (words.Two 1 v)
some_words None = None

unfoldable pub maybe_words : List ℕ → Option Words
maybe_words value = pick (is_word (ascii "none") value) (Some (words.Two 0 0)) (some_words (decimal_of value))

-- two numbers with a colon, 58, between, or `none`
abbrev pub both_words : Option ℕ → Option ℕ → Option Words
both_words (Some a) (Some b) = Some (words.Three 1 a b)
both_words (Some a) None = None
both_words None b = None

abbrev pub words_by : ℕ → List ℕ → Option Words
words_by colon value =
    pick (leb (length value) colon) None (both_words (decimal_of (take colon value)) (decimal_of (drop (colon + 1) value)))

unfoldable pub pair_words : List ℕ → Option Words
pair_words value = pick (is_word (ascii "none") value) (Some (words.Three 0 0 0)) (words_by (length_before 58 value) value)

-- where the digits start and end in the line
abbrev pub bytes_words : List ℕ → ℕ → ℕ → Option Words
bytes_words value start end =
    pick (is_word (ascii "-") value) (Some (words.Two start start))
    (pick (eqb (length value) 0) None (pick (is_hexadecimal value) (Some (words.Two start end)) None))

-- which of the words it is
unfoldable pub which_word : ℕ → List (List ℕ) → List ℕ → Option Words
which_word k [] value = None
which_word k (w ∷ ws) value = pick (is_word w value) (Some (words.One k)) (which_word (suc k) ws value)

unfoldable pub words_of : Kind → List ℕ → List ℕ → ℕ → ℕ → Option Words
words_of kind.Literal ch value start end = None
words_of kind.Number ch value start end = number_words (decimal_of value)
words_of kind.Maybe ch value start end = maybe_words value
words_of kind.Pair ch value start end = pair_words value
words_of kind.Bytes ch value start end = bytes_words value start end
words_of kind.Choice ch value start end = which_word 0 (split ch) value

abbrev pub listed : Option Words → List ℕ
listed (Some (words.One a)) = a ∷ []
listed (Some (words.Two a b)) = a ∷ b ∷ []
listed (Some (words.Three a b c)) = a ∷ b ∷ c ∷ []
listed None = []

abbrev pub is_good : Option Words → Bool
is_good (Some w) = true
is_good None = false

-- ---- a line

pub data Reading (A : Type 0) : Type 0 where
  Good : A → Reading A
  Bad : Reading A

abbrev pub prepend : List ℕ → Reading (List ℕ) → Reading (List ℕ)
prepend ws (Good vs) = Good (ws ++ vs)
prepend ws Bad = Bad

abbrev pub followed : Option Words → Reading (List ℕ) → Reading (List ℕ)
followed w rest = pick (is_good w) (prepend (listed w) rest) Bad

-- the line's bytes s, from a place on, by the rest of a form; within the words of a choice the form goes on behind their `)`
unfoldable pub read_from : Bool → List ℕ → ℕ → List ℕ → Reading (List ℕ)
read_from within [] at [] = Good []
read_from within [] at (a ∷ s) = Bad
read_from true (b ∷ form) at s = read_from (no (eqb b 41)) form at s
read_from false (b ∷ form) at s =
    pick (is_literal (kind_of b)) (pick (begins (b ∷ []) s) (read_from false form (at + 1) (drop 1 s)) Bad)
    (followed (words_of (kind_of b) (choice (kind_of b) form) (take (length_before 32 s) s) at (at + length_before 32 s))
    (read_from (opens (kind_of b)) form (at + length_before 32 s) (drop (length_before 32 s) s)))

unfoldable pub read_form : List ℕ → List ℕ → Reading (List ℕ)
read_form form line = read_from false form 0 line

abbrev pub is_read : Reading (List ℕ) → Bool
is_read (Good ws) = true
is_read Bad = false

-- the words of the values up to the first that is bad, or up to a byte that the line has not
unfoldable pub words_from : Bool → List ℕ → ℕ → List ℕ → List ℕ
words_from within [] at s = []
words_from true (b ∷ form) at s = words_from (no (eqb b 41)) form at s
words_from false (b ∷ form) at s =
    pick (is_literal (kind_of b)) (pick (begins (b ∷ []) s) (words_from false form (at + 1) (drop 1 s)) [])
    (listed (words_of (kind_of b) (choice (kind_of b) form) (take (length_before 32 s) s) at (at + length_before 32 s))
    ++ pick (is_good (words_of (kind_of b) (choice (kind_of b) form) (take (length_before 32 s) s) at (at + length_before 32 s)))
    (words_from (opens (kind_of b)) form (at + length_before 32 s) (drop (length_before 32 s) s)) [])

-- what becomes of the numbers lent: those words stand first, as far as there is room
abbrev pub Stored : List ℕ → List ℕ → List ℕ → List ℕ → Type 0
Stored form line before after = after ≡ printed before 0 (words_from false form 0 line)
