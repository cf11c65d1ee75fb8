-- The lines of an input, from the bytes that reads brought. Assumes nothing.
use mathlib.Core.Path.{◌≡◌, refl, sym, ap, ◌∙◌}
use mathlib.Core.List.{List, [], ◌∷◌, ◌++◌, append-nil, append_assoc}
use mathlib.Core.Bool.{Bool, true, false}
use Prim.Native.Nat.{ℕ, ◌+◌, ◌<◌, ◌≤◌, min}
use native.Mathlib.Omega.{arith}
use lib.Dec.{ltb}
use lib.ListN.{length, take, replicate, length-append, length-take, length-replicate}
use borrow.Author.Tests.{ltb-true, ltb-false}
use Rattle.std.specs.Prelude.{None, Option, Some}
use Rattle.text.specs.Printed.{behind}
use Rattle.text.proofs.Printing.{length_kept, fits}
use Rattle.lines.specs.Lines.{longest}
use Rattle.line_program.specs.declared.Reading.{Reading}
use Rattle.line_program.specs.Reads.{left, feed, NextLine, has_feed, has_more}
use Rattle.line_program.proofs.GoingOn.{apart}
use Rattle.ledger.specs.Ledger.{tables_of, empty_ledger}
use Rattle.journal_calls.specs.declared.State.{State}
use Rattle.journal_calls.specs.declared.Memory.{Memory}
use Rattle.journal_calls.specs.Calls.{Journal, state_of, whole, blank_memory, new_journal}
use Rattle.journal_turns.specs.Turns.{line_turn}
use Rattle.journal_text.specs.Texts.{first_of, is_good, opened, state_in, opening_text}
use Rattle.journal_text.specs.Journals.{cut, lines_of, bytes_of, endless}
use Rattle.journal_text.proofs.Cutting.{lines as law, long_same, long_first}
use Rattle.vocabulary.specs.declared.Settings.{Settings}

abbrev pub Line : Type 0
Line = List ℕ × Bool

pub none : {A : Type 0} (b : List A) → length b ≡ 0 → b ≡ []
none [] h = refl
none (a ∷ b) h = absurd (omega arith)

-- a program's line buffer
pub zeros_long : (n : ℕ) → longest ≤ n → longest ≤ length {A = ℕ} (replicate n 0)
zeros_long n h = omega (arith, length-replicate {A = ℕ} n 0)

-- ---- a line's buffer says what the line does

module _ {line had block after : List ℕ} {r : Reading} (x : NextLine line had block after r) (h : longest ≤ length line) where
  fills : r.used ≡ min (length x.read.text) (length line)
  unfolding behind
  fills = omega (arith, x.read.place)

  -- what says the same of any two lines that are too long says the same of the text and of what the buffer has of it
  by_buffer : {A : Type 0} (f : List ℕ → A) → ((a b : List ℕ) → longest ≤ length a → longest ≤ length b → f a ≡ f b)
      → f (take r.used after) ≡ f x.read.text
  by_buffer f same = go (ltb (length line) (length x.read.text)) refl
    where
      kept : length after ≡ length line
      kept = length_kept {q = r.used} (record { bytes = x.read.bytes; place = x.read.place })

      go : (t : Bool) → ltb (length line) (length x.read.text) ≡ t → f (take r.used after) ≡ f x.read.text
      go true e =
          let l : length line < length x.read.text = ltb-true _ _ e in
          same (take r.used after) x.read.text (omega (arith, kept, fills, length-take r.used after)) (omega arith)
      go false e = rw (x.read.bytes, x.read.place, fits line x.read.text (ltb-false _ _ e))

  pub same_line : (j : Journal) (reply : List ℕ) → line_turn j reply (take r.used after) (has_feed r.end) ≡ line_turn j reply x.read.text (has_feed r.end)
  same_line j reply =
      by_buffer (λ (t : List ℕ). line_turn j reply t (has_feed r.end))
      (λ (a b : List ℕ) (h : longest ≤ length a) (k : longest ≤ length b). long_same j reply a b (has_feed r.end) h k)

  pub same_first : first_of (take r.used after) (has_feed r.end) ≡ first_of x.read.text (has_feed r.end)
  same_first =
      by_buffer (λ (t : List ℕ). first_of t (has_feed r.end))
      (λ (a b : List ℕ) (h : longest ≤ length a) (k : longest ≤ length b). long_first a b (has_feed r.end) h k)

  -- the buffer has a byte where the text has one
  pub some : ltb 0 r.used ≡ true → 0 < length x.read.text
  some e = omega (arith, ltb-true 0 r.used e, fills)

  -- where it has none, and no line feed ended the line, the input is at its end
  pub at_end : has_feed r.end ≡ false → ltb 0 r.used ≡ false → (has_more r.end ≡ false) × (x.read.text ++ left block r.from r.until ≡ [])
  at_end e u = go (has_more r.end) refl
    where
      z : length x.read.text ≡ 0
      z = omega (arith, ltb-false 0 r.used u, fills)

      go : (t : Bool) → has_more r.end ≡ t → (has_more r.end ≡ false) × (x.read.text ++ left block r.from r.until ≡ [])
      go true m = absurd (omega (arith, z, x.long e m))
      go false m = (m, rw (none x.read.text z) (x.read.dry m).1)

-- ---- one line more

-- lines of which each was ended by a line feed
abbrev pub Ended : List Line → Type 0
Ended lines = (rest : List ℕ) → lines_of (bytes_of lines ++ rest) ≡ lines ++ lines_of rest

pub none_ended : Ended []
unfolding bytes_of
none_ended rest = refl

pub all_cut : {lines : List Line} → Ended lines → lines_of (bytes_of lines) ≡ lines
unfolding cut
all_cut {lines} ended = ap lines_of (sym (append-nil (bytes_of lines))) ∙ ended [] ∙ append-nil lines

bytes_more : (xs : List Line) (l : Line) → bytes_of (xs ++ (l ∷ [])) ≡ bytes_of xs ++ (l.0 ++ feed l.1)
unfolding bytes_of
bytes_more [] l = append-nil (l.0 ++ feed l.1)
bytes_more (x ∷ xs) l = rw (bytes_more xs l) (sym (append_assoc (x.0 ++ feed x.1) (bytes_of xs) (l.0 ++ feed l.1)))

-- the lines so far, and what was read behind them
module _ (lines : List Line) {line mid block after : List ℕ} {r : Reading} (x : NextLine line mid block after r) where
  abbrev l : Line
  l = (x.read.text, has_feed r.end)

  abbrev rest : List ℕ
  rest = left block r.from r.until

  pub more_long : length (bytes_of (lines ++ (l ∷ []))) ≡ length (bytes_of lines) + (length x.read.text + length (feed (has_feed r.end)))
  more_long = rw bytes_more (simp length-append)

  module _ (had brought : List ℕ) (whole : had ++ brought ≡ bytes_of lines ++ mid) where
    grown : had ++ (brought ++ x.read.brought) ≡ bytes_of lines ++ (x.read.text ++ (feed (has_feed r.end) ++ rest))
    grown =
        sym (append_assoc had brought x.read.brought)
        ∙ ap (λ (b : List ℕ). b ++ x.read.brought) whole
        ∙ append_assoc (bytes_of lines) mid x.read.brought
        ∙ ap (λ (b : List ℕ). bytes_of lines ++ b) x.read.whole

    -- it is a line
    pub more_whole : had ++ (brought ++ x.read.brought) ≡ bytes_of (lines ++ (l ∷ [])) ++ rest
    more_whole = grown ∙ rw bytes_more (simp append_assoc)

    -- it is none
    pub left_whole : has_feed r.end ≡ false → had ++ (brought ++ x.read.brought) ≡ bytes_of lines ++ (x.read.text ++ rest)
    left_whole e = grown ∙ ap (λ (d : Bool). bytes_of lines ++ (x.read.text ++ (feed d ++ rest))) e

  -- a line feed ended it
  pub more_ended : Ended lines → has_feed r.end ≡ true → Ended (lines ++ (l ∷ []))
  more_ended ended e s =
      ap lines_of
      (ap (λ (b : List ℕ). b ++ s) (bytes_more lines l)
      ∙ append_assoc (bytes_of lines) (x.read.text ++ feed (has_feed r.end)) s
      ∙ ap (λ (b : List ℕ). bytes_of lines ++ b) (append_assoc x.read.text (feed (has_feed r.end)) s)
      ∙ ap (λ (d : Bool). bytes_of lines ++ (x.read.text ++ (feed d ++ s))) e)
      ∙ ended (x.read.text ++ (10 ∷ s))
      ∙ ap (λ (b : List Line). lines ++ b) (law.ended x.read.text s x.read.plain)
      ∙ ap (λ (d : Bool). lines ++ ((x.read.text, d) ∷ lines_of s)) (sym e)
      ∙ sym (append_assoc lines (l ∷ []) (lines_of s))

  -- none did, and it is the last
  pub last_cut : Ended lines → has_feed r.end ≡ false → 0 < length x.read.text → lines_of (bytes_of (lines ++ (l ∷ []))) ≡ lines ++ (l ∷ [])
  last_cut ended e h =
      ap lines_of
      (bytes_more lines l
      ∙ ap (λ (d : Bool). bytes_of lines ++ (x.read.text ++ feed d)) e
      ∙ ap (λ (b : List ℕ). bytes_of lines ++ b) (append-nil x.read.text))
      ∙ ended x.read.text
      ∙ ap (λ (b : List Line). lines ++ b) (law.last x.read.text x.read.plain h)
      ∙ ap (λ (d : Bool). lines ++ ((x.read.text, d) ∷ [])) (sym e)

  -- where fewer than endless bytes were read the input is at its end
  pub last_dry : has_feed r.end ≡ false → length (bytes_of (lines ++ (l ∷ []))) < endless → (has_more r.end ≡ false) × (rest ≡ [])
  last_dry e h = go (has_more r.end) refl
    where
      go : (t : Bool) → has_more r.end ≡ t → (has_more r.end ≡ false) × (rest ≡ [])
      go true m = absurd (omega (arith, x.long e m, more_long))
      go false m = (m, (x.read.dry m).1)

-- ---- the first line

-- a good one prints nothing
pub silent : (f : Option Settings) → is_good f ≡ true → opening_text f ≡ []
silent (Some s) g = refl
silent None g = apart (sym g)

-- and a line feed ends it
pub unended : (a : List ℕ) {ended : Bool} → ended ≡ false → first_of a ended ≡ first_of [] false
unfolding first_of
unended a e = ap (first_of a) e

pub never_good : is_good (first_of [] false) ≡ false
unfolding first_of
never_good = refl

good_ended : (a : List ℕ) (ended : Bool) → is_good (first_of a ended) ≡ true → ended ≡ true
good_ended a true g = refl
good_ended a false g = apart (sym g ∙ ap is_good (unended a refl) ∙ never_good)

-- behind a good first line the journal's memory is blank
pub blank_lent : {m : Memory} → m ≡ blank_memory → tables_of m.ledger ≡ empty_ledger → (f : Option Settings) → whole (state_of (opened f)) m ≡ opened f
unfolding opened new_journal
blank_lent {m} e k f =
    let l : tables_of blank_memory.ledger ≡ empty_ledger = ap (λ (z : Memory). tables_of z.ledger) (sym e) ∙ k in
    rw e (rw l refl)

pub opened_state : (f : Option Settings) {s : State} → state_in f ≡ Some s → (s ≡ state_of (opened f)) × (is_good f ≡ true)
unfolding opened
opened_state (Some x) {s} e = (let z : s ≡ state_of (new_journal x) = cc in z, refl)
opened_state None e = absurd (let z : ◌≡◌ {A = ℕ} 0 1 = cc in omega arith)

pub opened_none : (f : Option Settings) → state_in f ≡ None → is_good f ≡ false
opened_none (Some x) e = absurd (let z : ◌≡◌ {A = ℕ} 0 1 = cc in omega arith)
opened_none None e = refl

-- the lines behind it
module _ {line block after : List ℕ} {r : Reading} (x : NextLine line [] block after r) (ls : List Line) where
  pub first_whole : (brought over : List ℕ) → left block r.from r.until ++ brought ≡ bytes_of ls ++ over
      → x.read.brought ++ brought ≡ bytes_of ((x.read.text, has_feed r.end) ∷ ls) ++ over
  unfolding bytes_of
  first_whole brought over h =
      ap (λ (d : List ℕ). d ++ brought) (more_whole [] x [] [] refl)
      ∙ append_assoc (bytes_of ((x.read.text, has_feed r.end) ∷ [])) (left block r.from r.until) brought
      ∙ ap (λ (d : List ℕ). bytes_of ((x.read.text, has_feed r.end) ∷ []) ++ d) h
      ∙ ap (λ (d : List ℕ). d ++ (bytes_of ls ++ over)) (append-nil (x.read.text ++ feed (has_feed r.end)))
      ∙ sym (append_assoc (x.read.text ++ feed (has_feed r.end)) (bytes_of ls) over)

  pub first_cut : is_good (first_of x.read.text (has_feed r.end)) ≡ true → lines_of (bytes_of ls) ≡ ls
      → lines_of (bytes_of ((x.read.text, has_feed r.end) ∷ ls)) ≡ (x.read.text, has_feed r.end) ∷ ls
  unfolding bytes_of
  first_cut g h =
      ap (λ (d : List ℕ). lines_of (d ++ bytes_of ls)) (sym (append-nil (x.read.text ++ feed (has_feed r.end))))
      ∙ more_ended [] x none_ended (good_ended x.read.text (has_feed r.end) g) (bytes_of ls)
      ∙ ap (λ (d : List Line). (x.read.text, has_feed r.end) ∷ d) h

  pub shorter : length (bytes_of ((x.read.text, has_feed r.end) ∷ ls)) < endless → length (bytes_of ls) < endless
  unfolding bytes_of
  shorter h = omega (arith, length-append (x.read.text ++ feed (has_feed r.end)) (bytes_of ls))
