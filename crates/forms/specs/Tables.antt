-- Forms of which a line has at most one, and what a line says by a table of forms (RULES.md, section 12.2).
use Rattle.std.specs.Prelude.{ℕ, ◌<◌, ◌≡◌, List, [], ◌∷◌, Bool, true, false, length, get_or, eqb}
use Rattle.prelude.specs.Choice.{no, both, either}
use Rattle.forms.specs.Forms.{kind_of, is_literal, Reading, Good, Bad, read_form}

-- whether two forms differ at a byte that stands for itself in both, behind bytes that do so and are the same
unfoldable pub differ : List ℕ → List ℕ → Bool
differ [] other = false
differ (a ∷ form) [] = false
differ (a ∷ form) (b ∷ other) = both (both (is_literal (kind_of a)) (is_literal (kind_of b))) (either (no (eqb a b)) (differ form other))

-- whether a form differs so from each of some forms
unfoldable pub differs_from : List ℕ → List (List ℕ) → Bool
differs_from form [] = true
differs_from form (other ∷ forms) = both (differ form other) (differs_from form forms)

-- whether each differs so from each other
unfoldable pub all_differ : List (List ℕ) → Bool
all_differ [] = true
all_differ (form ∷ forms) = both (differs_from form forms) (all_differ forms)

-- then they share no line: where two of them read it, they are the same one
abbrev pub ShareNoLine : List (List ℕ) → Type 0
ShareNoLine forms =
    (i j : ℕ) (line ws vs : List ℕ) → i < length forms → j < length forms
    → read_form (get_or forms i []) line ≡ Good ws → read_form (get_or forms j []) line ≡ Good vs → i ≡ j

-- ---- what a line says: the meaning of its words by the first form that reads it

pub record Entry (A : Type 0) : Type 0 where
  pub form : List ℕ
  pub means : List ℕ → A

abbrev pub tried : {A : Type 0} → Reading (List ℕ) → (List ℕ → A) → A → A
tried (Good ws) means rest = means ws
tried Bad means rest = rest

unfoldable pub said : {A : Type 0} → A → List (Entry A) → List ℕ → A
said unknown [] line = unknown
said unknown (e ∷ table) line = tried (read_form e.form line) e.means (said unknown table line)

unfoldable pub forms_of : {A : Type 0} → List (Entry A) → List (List ℕ)
forms_of [] = []
forms_of (e ∷ table) = e.form ∷ forms_of table
