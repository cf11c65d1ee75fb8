-- Forms that differ share no line, and a line says what the form that reads it means. Assumes nothing.
use mathlib.Core.Path.{◌≡◌, refl, sym, ap, ◌∙◌}
use mathlib.Core.List.{List, [], ◌∷◌}
use mathlib.Core.Bool.{Bool, true, false}
use Prim.Native.Nat.{ℕ, zero, suc, ◌+◌, ◌<◌}
use native.Mathlib.Omega.{arith}
use lib.Dec.{eqb}
use lib.ListN.{length, get_or}
use borrow.Author.Tests.{eqb-true, eq-eqb}
use Rattle.prelude.specs.Choice.{pick, no, both, either}
use Rattle.text.specs.Words.{begins}
use Rattle.forms.specs.Forms.{kind_of, is_literal, Reading, Good, Bad, read_from, read_form}
use Rattle.forms.specs.Tables.{differ, differs_from, all_differ, ShareNoLine, Entry, said, forms_of}

both_true : (p q : Bool) → both p q ≡ true → (p ≡ true) × (q ≡ true)
both_true true q e = (refl, e)
both_true false q e = let z : ◌≡◌ {A = ℕ} 0 1 = cc in absurd (omega arith)

-- a byte that stands for itself is the line's next byte
byte_read : (b : ℕ) (form : List ℕ) (at : ℕ) (s ws : List ℕ) → is_literal (kind_of b) ≡ true → read_from false (b ∷ form) at s ≡ Good ws
    → (t : List ℕ) × (s ≡ b ∷ t) × (read_from false form (at + 1) t ≡ Good ws)
unfolding read_from begins
byte_read b form at [] ws l h = let y = rw l at h in let z : ◌≡◌ {A = ℕ} 0 1 = cc in absurd (omega arith)
byte_read b form at (a ∷ s) ws l h = go (eqb a b) refl (rw l at h)
  where
    go : (t : Bool) → eqb a b ≡ t → pick (both t true) (read_from false form (at + 1) s) Bad ≡ Good ws
        → (t : List ℕ) × (a ∷ s ≡ b ∷ t) × (read_from false form (at + 1) t ≡ Good ws)
    go true e h = (s, rw (eqb-true a b e), h)
    go false e h = let z : ◌≡◌ {A = ℕ} 0 1 = cc in absurd (omega arith)

apart : (form other : List ℕ) (at : ℕ) (s ws vs : List ℕ) → differ form other ≡ true → read_from false form at s ≡ Good ws → read_from false other at s ≡ Good vs → ⊥
unfolding differ
apart [] other at s ws vs d h k = let z : ◌≡◌ {A = ℕ} 0 1 = cc in absurd (omega arith)
apart (a ∷ form) [] at s ws vs d h k = let z : ◌≡◌ {A = ℕ} 0 1 = cc in absurd (omega arith)
apart (a ∷ form) (b ∷ other) at s ws vs d h k =
    let p = both_true (both (is_literal (kind_of a)) (is_literal (kind_of b))) (either (no (eqb a b)) (differ form other)) d in
    let q = both_true (is_literal (kind_of a)) (is_literal (kind_of b)) p.0 in
    let x = byte_read a form at s ws q.0 h in
    let y = byte_read b other at s vs q.1 k in
    let e : a ∷ x.0 ≡ b ∷ y.0 = sym x.1 ∙ y.1 in
    let f : a ≡ b = cc in
    let g : x.0 ≡ y.0 = cc in
    apart form other (at + 1) y.0 ws vs (rw (eq-eqb a b f) at p.1) (rw g at x.2) y.2

pub read_apart : (form other line ws vs : List ℕ) → differ form other ≡ true → read_form form line ≡ Good ws → read_form other line ≡ Good vs → ⊥
unfolding read_form
read_apart form other line ws vs d h k = apart form other 0 line ws vs d h k

from_each : (form : List ℕ) (forms : List (List ℕ)) (i : ℕ) → differs_from form forms ≡ true → i < length forms → differ form (get_or forms i []) ≡ true
unfolding differs_from
from_each form [] i d h = absurd (omega arith)
from_each form (other ∷ forms) zero d h = (both_true (differ form other) (differs_from form forms) d).0
from_each form (other ∷ forms) (suc i) d h = from_each form forms i (both_true (differ form other) (differs_from form forms) d).1 (omega arith)

pub share_no_line : (forms : List (List ℕ)) → all_differ forms ≡ true → ShareNoLine forms
unfolding all_differ
share_no_line [] d i j line ws vs hi hj h k = absurd (omega arith)
share_no_line (form ∷ forms) d zero zero line ws vs hi hj h k = refl
share_no_line (form ∷ forms) d zero (suc j) line ws vs hi hj h k =
    absurd (read_apart form (get_or forms j []) line ws vs (from_each form forms j (both_true (differs_from form forms) (all_differ forms) d).0 (omega arith)) h k)
share_no_line (form ∷ forms) d (suc i) zero line ws vs hi hj h k =
    absurd (read_apart form (get_or forms i []) line vs ws (from_each form forms i (both_true (differs_from form forms) (all_differ forms) d).0 (omega arith)) k h)
share_no_line (form ∷ forms) d (suc i) (suc j) line ws vs hi hj h k =
    ap suc (share_no_line forms (both_true (differs_from form forms) (all_differ forms) d).1 i j line ws vs (omega arith) (omega arith) h k)

-- ---- a table

module _ {A : Type 0} (unknown : A) where
  -- a form that reads the line turns the ones that differ from it back
  bad_from : (form other line ws : List ℕ) → differ form other ≡ true → read_form other line ≡ Good ws → read_form form line ≡ Bad
  bad_from form other line ws d h = go (read_form form line) refl
    where
      go : (r : Reading (List ℕ)) → read_form form line ≡ r → read_form form line ≡ Bad
      go (Good vs) e = absurd (read_apart form other line vs ws d e h)
      go Bad e = e

  pub next : (e : Entry A) (table : List (Entry A)) (line : List ℕ) → read_form e.form line ≡ Bad → said unknown (e ∷ table) line ≡ said unknown table line
  unfolding said
  next e table line h = rw h

  pub here : (e : Entry A) (table : List (Entry A)) (line ws : List ℕ) → read_form e.form line ≡ Good ws → said unknown (e ∷ table) line ≡ e.means ws
  unfolding said
  here e table line ws h = rw h

  many : (table : List (Entry A)) → length (forms_of table) ≡ length table
  unfolding forms_of
  many [] = refl
  many (e ∷ table) = ap suc (many table)

  form_at : (table : List (Entry A)) (none : Entry A) (i : ℕ) → i < length table → get_or (forms_of table) i [] ≡ (get_or table i none).form
  unfolding forms_of
  form_at [] none i h = absurd (omega arith)
  form_at (e ∷ table) none zero h = refl
  form_at (e ∷ table) none (suc i) h = form_at table none i (omega arith)

  from_entry : (e : Entry A) (table : List (Entry A)) (none : Entry A) (i : ℕ) → differs_from e.form (forms_of table) ≡ true → i < length table
      → differ e.form (get_or table i none).form ≡ true
  from_entry e table none i d h =
      let q = from_each e.form (forms_of table) i d (omega (arith, many table)) in
      rw (form_at table none i h) at q

  -- the i-th form reads the line: the line says what its words mean there
  pub said_at : (table : List (Entry A)) (none : Entry A) (i : ℕ) (line ws : List ℕ) → all_differ (forms_of table) ≡ true → i < length table
      → read_form (get_or table i none).form line ≡ Good ws → said unknown table line ≡ (get_or table i none).means ws
  unfolding all_differ forms_of
  said_at [] none i line ws d h k = absurd (omega arith)
  said_at (e ∷ table) none zero line ws d h k = here e table line ws k
  said_at (e ∷ table) none (suc i) line ws d h k =
      let p = both_true (differs_from e.form (forms_of table)) (all_differ (forms_of table)) d in
      next e table line (bad_from e.form (get_or table i none).form line ws (from_entry e table none i p.0 (omega arith)) k)
      ∙ said_at table none i line ws p.1 (omega arith) k
