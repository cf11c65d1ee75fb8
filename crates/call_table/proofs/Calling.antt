-- A line's call and its bytes, as the definitions say. Assumes nothing.
use mathlib.Core.Path.{◌≡◌, refl, sym, ap, ◌∙◌}
use mathlib.Core.List.{List, [], ◌∷◌}
use mathlib.Core.Bool.{Bool, true, false}
use Prim.Native.Nat.{ℕ, suc, ◌+◌, ◌-◌, ◌*◌, ◌<◌, ◌≤◌, min}
use native.Mathlib.Numerals.{add-one}
use native.Mathlib.Omega.{arith}
use lib.Dec.{eqb, leb}
use Rattle.prelude.specs.Choice.{pick}
use lib.ListN.{length, take, drop, length-take, length-drop}
use borrow.Author.Tests.{le-leb, lt-leb, leb-true}
use Rattle.std.specs.Prelude.{None, Option, Some}
use Rattle.std.specs.Option.{is_some}
use Rattle.text.specs.Hexadecimal.{digit_value, is_pair, bytes_of}
use Rattle.text.specs.Printed.{printed, behind}
use Rattle.text.proofs.Printing.{fits, fits_place, laid_none}
use Rattle.lines.specs.Lines.{longest}
use Rattle.forms.specs.Forms.{Reading, Good, Bad, read_form, is_read, Stored}
use Rattle.forms.specs.Texts.{part}
use Rattle.forms.proofs.Count.{all_words}
use Rattle.forms.proofs.Print.{part_none, part_cut}
use Rattle.call_table.specs.Tables.{on_first, parts, field_of, no_words, tried_by, words_by, call_from, call_of, among, made, turn_by, bytes_in}
use Rattle.call_table.specs.declared.Call.{Call}

-- ---- a row

tried_by_lem : (form line x : List ℕ) (r : Reading (List ℕ)) → read_form form line ≡ r → true ≡ is_read r → Stored form line no_words x → ◌≡◌ {A = Option (List ℕ)} (Some x) (tried_by r)
unfolding read_form
tried_by_lem form line x (Good ws) h e s = rw (s, all_words false form 0 line ws h)
tried_by_lem form line x Bad h e s = let z : ◌≡◌ {A = ℕ} 0 1 = cc in absurd (omega arith)

not_tried : (r : Reading (List ℕ)) → false ≡ is_read r → ◌≡◌ {A = Option (List ℕ)} None (tried_by r)
not_tried (Good ws) e = let z : ◌≡◌ {A = ℕ} 0 1 = cc in absurd (omega arith)
not_tried Bad e = refl

module _ (row line : List ℕ) {form : List ℕ} {r : Bool} (e : form ≡ field_of row 0) (f : r ≡ is_read (read_form form line)) where
  pub row_read : {x : List ℕ} → Stored form line no_words x → r ≡ true → ◌≡◌ {A = Option (List ℕ)} (Some x) (words_by row line)
  unfolding words_by
  row_read {x} s t = rw (← e) (tried_by_lem form line x (read_form form line) refl (sym t ∙ f) s)

  pub row_unread : r ≡ false → ◌≡◌ {A = Option (List ℕ)} None (words_by row line)
  unfolding words_by
  row_unread t = rw (← e) (not_tried (read_form form line) (sym t ∙ f))

-- ---- bytes

-- they are fewer than their digits
bytes_shorter : (s : List ℕ) → length (bytes_of s) ≤ length s
unfolding bytes_of
bytes_shorter [] = omega arith
bytes_shorter (a ∷ []) = omega arith
bytes_shorter (a ∷ b ∷ s) = go (is_pair a b) (bytes_shorter s)
  where
    go : (t : Bool) → length (bytes_of s) ≤ length s → length (pick t ((digit_value a * 16 + digit_value b) ∷ bytes_of s) []) ≤ suc (suc (length s))
    go true h = omega arith
    go false h = omega arith

no_more : (s : List ℕ) (a e m : ℕ) → m ≡ min e (length s) → longest < m - a → longest < length (part s a e)
no_more s a e m d h = omega (arith, length-take (e - a) (drop a s), length-drop a s)

module _ (line : List ℕ) (start end : ℕ) {m : ℕ} (d : m ≡ min end (length line)) where
  pub bytes_none : m ≤ start → ◌≡◌ {A = List ℕ} [] (bytes_in line start end)
  unfolding bytes_in bytes_of
  bytes_none h = rw (part_none line start end m d h)

  pub bytes_many : longest < m - start → ◌≡◌ {A = List ℕ} [] (bytes_in line start end)
  unfolding bytes_in
  bytes_many h = rw (lt-leb (length (part line start end)) longest (no_more line start end m d h))

  module _ (h : m - start ≤ longest) where
    cut_lem : part line start m ≡ part line start end
    cut_lem = part_cut line start end m d

    pub bytes_cut : bytes_of (part line start m) ≡ bytes_in line start end
    unfolding bytes_in
    bytes_cut =
        let l : length (part line start end) ≤ longest = omega (arith, ap length cut_lem, length-take (m - start) (drop start line)) in
        rw (le-leb (length (part line start end)) longest l, ← cut_lem) refl

bytes_few : (line : List ℕ) (start end : ℕ) → length (bytes_in line start end) ≤ longest
unfolding bytes_in
bytes_few line start end = go (leb (length (part line start end)) longest) refl
  where
    go : (t : Bool) → leb (length (part line start end)) longest ≡ t → length (pick t (bytes_of (part line start end)) []) ≤ longest
    go true e = let l : length (part line start end) ≤ longest = leb-true _ _ e in omega (arith, bytes_shorter (part line start end))
    go false e = omega arith

-- bytes over the start of room
pub record Read (bytes room : List ℕ) (n : ℕ) (after : List ℕ) : Type 0 where
  pub laid : after ≡ printed room 0 bytes
  pub count : n ≡ length bytes
  pub shown : take n after ≡ bytes
  pub within : n ≤ longest

pub bytes_read : (line : List ℕ) (start end : ℕ) (o : List ℕ) {s : List ℕ} {n : ℕ} {x : List ℕ} → length o ≡ 32768 → s ≡ bytes_in line start end
    → n ≡ behind o 0 s → x ≡ printed o 0 s → Read (bytes_in line start end) o n x
bytes_read line start end o {s} {n} room e g f =
    let l : length s ≤ longest = omega (arith, ap length e, bytes_few line start end) in
    let k : length s ≤ length o = omega (arith, l, room) in
    let c : n ≡ length s = g ∙ fits_place o s k in
    record { laid = rw (← e) f; count = rw (← e) c; shown = rw (f, g, ← e) (fits o s k); within = omega (arith, c, l) }

pub none_read : (line : List ℕ) (start end : ℕ) (o : List ℕ) → length o ≡ 32768 → ◌≡◌ {A = List ℕ} [] (bytes_in line start end) → Read (bytes_in line start end) o 0 o
none_read line start end o room e = bytes_read line start end o room e (laid_none o 0).place (laid_none o 0).bytes

-- ---- the rows one at a time

module _ (table line : List ℕ) (k : ℕ) {rows : List (List ℕ)} (inv : call_of table line ≡ call_from line k rows) where
  pub none_left : rows ≡ [] → ◌≡◌ {A = Option Call} None (call_of table line)
  unfolding call_from
  none_left e = sym (inv ∙ rw e)

  module _ {row : List ℕ} {rest : List (List ℕ)} (e : rows ≡ row ∷ rest) {t : Option (List ℕ)} (f : t ≡ words_by row line) where
    pub row_found : {ws : List ℕ} → t ≡ Some ws → ◌≡◌ {A = Option Call} (Some (record { row = k; words = ws })) (call_of table line)
    unfolding call_from
    row_found h = sym (inv ∙ rw (e, ← f, h))

    pub row_next : t ≡ None → call_of table line ≡ call_from line (k + 1) rest
    unfolding call_from
    row_next h = inv ∙ rw (e, ← f, h, add-one k)

pub parts_few : (separator : ℕ) (s : List ℕ) → length (parts separator s) ≤ length s
unfolding parts
parts_few separator [] = omega arith
parts_few separator (b ∷ s) = go (eqb b separator) (parts separator s) (parts_few separator s)
  where
    go : (t : Bool) (ps : List (List ℕ)) → length ps ≤ length s → length (pick t ([] ∷ ps) (on_first b ps)) ≤ suc (length s)
    go true ps h = omega arith
    go false [] h = omega arith
    go false (p ∷ ps) h = omega arith

pub begun : (table line : List ℕ) {k : ℕ} {rows : List (List ℕ)} → k ≡ 0 → rows ≡ parts 10 table → call_of table line ≡ call_from line k rows
unfolding call_of
begun table line e f = rw (e, f)

-- ---- a line that has none of a table's forms

pub not_made : {A : Type 0} (table line : List ℕ) (other : A) (turn : Call → A) → among table line ≡ false → turn_by table other turn line ≡ other
unfolding turn_by
not_made table line other turn h = go (call_of table line) h
  where
    go : (c : Option Call) → is_some c ≡ false → made other turn c ≡ other
    go None e = refl
    go (Some call) e = let z : ◌≡◌ {A = ℕ} 0 1 = cc in absurd (omega arith)
