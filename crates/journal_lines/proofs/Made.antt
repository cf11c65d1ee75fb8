-- Lines from words, and the form that a line has. Assumes nothing.
use mathlib.Core.Path.{◌≡◌, refl, sym, ◌∙◌, ap}
use mathlib.Core.List.{List, []}
use mathlib.Core.Bool.{true, false}
use Prim.Native.Nat.{ℕ, ◌≤◌, ◌<◌}
use native.Mathlib.Omega.{arith}
use lib.ListN.{length, take, get_or}
use lib.Seq.{get_or-take}
use Rattle.std.specs.Prelude.{None, Option, Some}
use Rattle.forms.specs.Forms.{kind_of as mark_of, Good, read_form, is_read, Stored}
use Rattle.forms.specs.Texts.{count_from}
use Rattle.forms.specs.Tables.{differ, differs_from, all_differ, Entry, said, forms_of, ShareNoLine}
use Rattle.forms.proofs.Count.{is_bad, is_good_lem}
use Rattle.forms.proofs.Tables.{share_no_line, said_at}
use Rattle.journal_lines.specs.Forms.{forms, settings_form, start_form, up_form, input_form, tick_form, wrote_form, down_form, dial_form, forget_form, attribute_form}
use Rattle.journal_lines.specs.Lines.{settings_in, settings_of, start_of, up_of, input_of, tick_of, wrote_of, down_of, dial_of, forget_of, attribute_of, calls, line_of}
use Rattle.journal_lines.specs.declared.Line.{Line}
use Rattle.vocabulary.specs.declared.Settings.{Settings}

-- ---- a call looks at its own words alone

settings_looks : (s : List ℕ) → settings_in (take 8 s) ≡ settings_in s
settings_looks s = rw (get_or-take 8 s 0 0 (omega arith), get_or-take 8 s 1 0 (omega arith), get_or-take 8 s 2 0 (omega arith), get_or-take 8 s 3 0 (omega arith), get_or-take 8 s 4 0 (omega arith), get_or-take 8 s 5 0 (omega arith), get_or-take 8 s 6 0 (omega arith), get_or-take 8 s 7 0 (omega arith))

start_looks : (s : List ℕ) → start_of (take 4 s) ≡ start_of s
start_looks s = rw (get_or-take 4 s 0 0 (omega arith), get_or-take 4 s 1 0 (omega arith), get_or-take 4 s 2 0 (omega arith), get_or-take 4 s 3 0 (omega arith))

up_looks : (s : List ℕ) → up_of (take 12 s) ≡ up_of s
up_looks s = rw (get_or-take 12 s 0 0 (omega arith), get_or-take 12 s 1 0 (omega arith), get_or-take 12 s 2 0 (omega arith), get_or-take 12 s 3 0 (omega arith), get_or-take 12 s 4 0 (omega arith), get_or-take 12 s 5 0 (omega arith), get_or-take 12 s 6 0 (omega arith), get_or-take 12 s 7 0 (omega arith), get_or-take 12 s 8 0 (omega arith), get_or-take 12 s 9 0 (omega arith), get_or-take 12 s 10 0 (omega arith), get_or-take 12 s 11 0 (omega arith))

input_looks : (s : List ℕ) → input_of (take 13 s) ≡ input_of s
input_looks s = rw (get_or-take 13 s 0 0 (omega arith), get_or-take 13 s 1 0 (omega arith), get_or-take 13 s 2 0 (omega arith), get_or-take 13 s 3 0 (omega arith), get_or-take 13 s 4 0 (omega arith), get_or-take 13 s 5 0 (omega arith), get_or-take 13 s 6 0 (omega arith), get_or-take 13 s 7 0 (omega arith), get_or-take 13 s 8 0 (omega arith), get_or-take 13 s 9 0 (omega arith), get_or-take 13 s 10 0 (omega arith), get_or-take 13 s 11 0 (omega arith), get_or-take 13 s 12 0 (omega arith))

tick_looks : (s : List ℕ) → tick_of (take 8 s) ≡ tick_of s
tick_looks s = rw (get_or-take 8 s 0 0 (omega arith), get_or-take 8 s 1 0 (omega arith), get_or-take 8 s 2 0 (omega arith), get_or-take 8 s 3 0 (omega arith), get_or-take 8 s 4 0 (omega arith), get_or-take 8 s 5 0 (omega arith), get_or-take 8 s 6 0 (omega arith), get_or-take 8 s 7 0 (omega arith))

wrote_looks : (s : List ℕ) → wrote_of (take 3 s) ≡ wrote_of s
wrote_looks s = rw (get_or-take 3 s 0 0 (omega arith), get_or-take 3 s 1 0 (omega arith), get_or-take 3 s 2 0 (omega arith))

down_looks : (s : List ℕ) → down_of (take 3 s) ≡ down_of s
down_looks s = rw (get_or-take 3 s 0 0 (omega arith), get_or-take 3 s 1 0 (omega arith), get_or-take 3 s 2 0 (omega arith))

dial_looks : (s : List ℕ) → dial_of (take 4 s) ≡ dial_of s
dial_looks s = rw (get_or-take 4 s 0 0 (omega arith), get_or-take 4 s 1 0 (omega arith), get_or-take 4 s 2 0 (omega arith), get_or-take 4 s 3 0 (omega arith))

forget_looks : (s : List ℕ) → forget_of (take 2 s) ≡ forget_of s
forget_looks s = rw (get_or-take 2 s 0 0 (omega arith), get_or-take 2 s 1 0 (omega arith))

attribute_looks : (s : List ℕ) → attribute_of (take 4 s) ≡ attribute_of s
attribute_looks s = rw (get_or-take 4 s 0 0 (omega arith), get_or-take 4 s 1 0 (omega arith), get_or-take 4 s 2 0 (omega arith), get_or-take 4 s 3 0 (omega arith))

-- ---- how many words a form has

settings_count : count_from false settings_form ≡ 8
unfolding count_from mark_of
settings_count = refl

start_count : count_from false start_form ≡ 4
unfolding count_from mark_of
start_count = refl

up_count : count_from false up_form ≡ 12
unfolding count_from mark_of
up_count = refl

input_count : count_from false input_form ≡ 13
unfolding count_from mark_of
input_count = refl

tick_count : count_from false tick_form ≡ 8
unfolding count_from mark_of
tick_count = refl

wrote_count : count_from false wrote_form ≡ 3
unfolding count_from mark_of
wrote_count = refl

down_count : count_from false down_form ≡ 3
unfolding count_from mark_of
down_count = refl

dial_count : count_from false dial_form ≡ 4
unfolding count_from mark_of
dial_count = refl

forget_count : count_from false forget_form ≡ 2
unfolding count_from mark_of
forget_count = refl

attribute_count : count_from false attribute_form ≡ 4
unfolding count_from mark_of
attribute_count = refl

-- ---- no two forms share a line

all_differ_lem : all_differ forms ≡ true
unfolding all_differ differs_from differ mark_of
all_differ_lem = refl

pub no_shared_line : ShareNoLine forms
no_shared_line = share_no_line forms all_differ_lem

calls_differ : all_differ (forms_of calls) ≡ true
unfolding all_differ differs_from differ forms_of mark_of
calls_differ = refl

-- ---- the form that the line has

abbrev pub none : Entry (Option Line)
none = record { form = []; means = λ ws. None }

abbrev pub form_at : ℕ → List ℕ
form_at i = (get_or calls i none).form

abbrev pub means_at : ℕ → List ℕ → Option Line
means_at i = (get_or calls i none).means

pub said_by_lem : (line : List ℕ) (i : ℕ) (ws : List ℕ) → i < 9 → read_form (form_at i) line ≡ Good ws → line_of line ≡ means_at i ws
unfolding line_of
said_by_lem line i ws h e = said_at None calls none i line ws calls_differ (omega arith) e

module _ (line : List ℕ) where
  read_by : (i n : ℕ) → i < 9 → n ≤ 16 → ((s : List ℕ) → means_at i (take n s) ≡ means_at i s) → count_from false (form_at i) ≡ n
      → (before after : List ℕ) → true ≡ is_read (read_form (form_at i) line) → Stored (form_at i) line before after → length before ≡ 16
      → means_at i after ≡ line_of line
  read_by i n hi hn looks count before after e s l =
      sym (looks after) ∙ sym (said_by_lem line i (take n after) hi (is_good_lem (form_at i) line before after n e s count (omega arith)))

  pub start_read : (before after : List ℕ) → true ≡ is_read (read_form start_form line) → Stored start_form line before after → length before ≡ 16 → Some (start_of after) ≡ line_of line
  start_read = read_by 0 4 (omega arith) (omega arith) (λ s. ap (λ (l : Line). Some l) (start_looks s)) start_count

  pub up_read : (before after : List ℕ) → true ≡ is_read (read_form up_form line) → Stored up_form line before after → length before ≡ 16 → Some (up_of after) ≡ line_of line
  up_read = read_by 1 12 (omega arith) (omega arith) (λ s. ap (λ (l : Line). Some l) (up_looks s)) up_count

  pub input_read : (before after : List ℕ) → true ≡ is_read (read_form input_form line) → Stored input_form line before after → length before ≡ 16 → input_of after ≡ line_of line
  input_read = read_by 2 13 (omega arith) (omega arith) input_looks input_count

  pub tick_read : (before after : List ℕ) → true ≡ is_read (read_form tick_form line) → Stored tick_form line before after → length before ≡ 16 → Some (tick_of after) ≡ line_of line
  tick_read = read_by 3 8 (omega arith) (omega arith) (λ s. ap (λ (l : Line). Some l) (tick_looks s)) tick_count

  pub wrote_read : (before after : List ℕ) → true ≡ is_read (read_form wrote_form line) → Stored wrote_form line before after → length before ≡ 16 → Some (wrote_of after) ≡ line_of line
  wrote_read = read_by 4 3 (omega arith) (omega arith) (λ s. ap (λ (l : Line). Some l) (wrote_looks s)) wrote_count

  pub down_read : (before after : List ℕ) → true ≡ is_read (read_form down_form line) → Stored down_form line before after → length before ≡ 16 → Some (down_of after) ≡ line_of line
  down_read = read_by 5 3 (omega arith) (omega arith) (λ s. ap (λ (l : Line). Some l) (down_looks s)) down_count

  pub dial_read : (before after : List ℕ) → true ≡ is_read (read_form dial_form line) → Stored dial_form line before after → length before ≡ 16 → Some (dial_of after) ≡ line_of line
  dial_read = read_by 6 4 (omega arith) (omega arith) (λ s. ap (λ (l : Line). Some l) (dial_looks s)) dial_count

  pub forget_read : (before after : List ℕ) → true ≡ is_read (read_form forget_form line) → Stored forget_form line before after → length before ≡ 16 → Some (forget_of after) ≡ line_of line
  forget_read = read_by 7 2 (omega arith) (omega arith) (λ s. ap (λ (l : Line). Some l) (forget_looks s)) forget_count

  pub attribute_read : (before after : List ℕ) → true ≡ is_read (read_form attribute_form line) → Stored attribute_form line before after → length before ≡ 16 → Some (attribute_of after) ≡ line_of line
  attribute_read = read_by 8 4 (omega arith) (omega arith) (λ s. ap (λ (l : Line). Some l) (attribute_looks s)) attribute_count

  pub none_read : false ≡ is_read (read_form start_form line) → false ≡ is_read (read_form up_form line) → false ≡ is_read (read_form input_form line) → false ≡ is_read (read_form tick_form line) → false ≡ is_read (read_form wrote_form line) → false ≡ is_read (read_form down_form line) → false ≡ is_read (read_form dial_form line) → false ≡ is_read (read_form forget_form line) → false ≡ is_read (read_form attribute_form line) → None ≡ line_of line
  unfolding line_of said
  none_read h0 h1 h2 h3 h4 h5 h6 h7 h8 = rw (is_bad (read_form start_form line) h0, is_bad (read_form up_form line) h1, is_bad (read_form input_form line) h2, is_bad (read_form tick_form line) h3, is_bad (read_form wrote_form line) h4, is_bad (read_form down_form line) h5, is_bad (read_form dial_form line) h6, is_bad (read_form forget_form line) h7, is_bad (read_form attribute_form line) h8)

  pub settings_read : (before after : List ℕ) → true ≡ is_read (read_form settings_form line) → Stored settings_form line before after → length before ≡ 16 → Some (settings_in after) ≡ settings_of line
  unfolding settings_of
  settings_read before after e s l = ap (λ (x : Settings). Some x) (sym (settings_looks after)) ∙ rw (is_good_lem settings_form line before after 8 e s settings_count (omega arith))

  pub settings_unread : false ≡ is_read (read_form settings_form line) → None ≡ settings_of line
  unfolding settings_of
  settings_unread h = rw (is_bad (read_form settings_form line) h)
