-- How long the text of a form's values is at most (RULES.md, section 12.3).
use Rattle.std.specs.Prelude.{ℕ, ◌+◌, ◌*◌, ◌≤◌, List, [], ◌∷◌, Bool, true, false, ◌≡◌, length, drop, eqb, ltb}
use Rattle.prelude.specs.Choice.{pick, no}
use Rattle.prelude.specs.Numbers.{max_u64}
use Rattle.forms.specs.Forms.{kind_of, is_literal, opens, choice, split}
use Rattle.forms.specs.Texts.{Value, number, some, absent, pair, unpaired, bytes, word, kind_of_value, Either}
use Rattle.forms.specs.declared.Kind.{Kind}
use Rattle.forms.specs.declared.Kind.TheVariants as kind

-- a number of 64 bits has at most 20 digits
abbrev pub number_room : ℕ
number_room = 20

unfoldable pub longest : List (List ℕ) → ℕ
longest [] = 0
longest (w ∷ ws) = pick (ltb (length w) (longest ws)) (longest ws) (length w)

-- a byte of the form, or a value of a kind, whose bytes are at most so many
abbrev pub value_room : ℕ → Kind → List ℕ → ℕ
value_room most kind.Literal ch = 1
value_room most kind.Number ch = number_room
value_room most kind.Maybe ch = number_room
value_room most kind.Pair ch = 2 * number_room + 1
value_room most kind.Bytes ch = 2 * most + 1
value_room most kind.Choice ch = longest (split ch)

unfoldable pub room_from : ℕ → Bool → List ℕ → ℕ
room_from most within [] = 0
room_from most true (b ∷ form) = room_from most (no (eqb b 41)) form
room_from most false (b ∷ form) = value_room most (kind_of b) (choice (kind_of b) form) + room_from most (opens (kind_of b)) form

abbrev pub room_of : ℕ → List ℕ → ℕ
room_of most form = room_from most false form

-- values of which each is of its mark's kind
abbrev pub FirstIs : Kind → List Value → Type 0
FirstIs k [] = ⊥
FirstIs k (v ∷ vs) = kind_of_value v ≡ k

unfoldable pub KindsFrom : Bool → List ℕ → List Value → Type 0
KindsFrom within [] vs = Unit
KindsFrom true (b ∷ form) vs = KindsFrom (no (eqb b 41)) form vs
KindsFrom false (b ∷ form) vs =
    Either (is_literal (kind_of b)) (KindsFrom false form vs) (FirstIs (kind_of b) vs × KindsFrom (opens (kind_of b)) form (drop 1 vs))

abbrev pub Kinds : List ℕ → List Value → Type 0
Kinds form vs = KindsFrom false form vs

-- and whose numbers are of 64 bits and whose bytes are at most so many
abbrev pub AtMost : ℕ → Value → Type 0
AtMost most (number v) = v ≤ max_u64
AtMost most (some v) = v ≤ max_u64
AtMost most absent = Unit
AtMost most (pair a b) = (a ≤ max_u64) × (b ≤ max_u64)
AtMost most unpaired = Unit
AtMost most (bytes s) = length s ≤ most
AtMost most (word k) = Unit

unfoldable pub AllAtMost : ℕ → List Value → Type 0
AllAtMost most [] = Unit
AllAtMost most (v ∷ vs) = AtMost most v × AllAtMost most vs
