-- A form's values are read back from their text. Assumes nothing.
use mathlib.Core.Path.{◌≡◌, refl, sym, ap, ◌∙◌}
use mathlib.Core.List.{List, [], ◌∷◌, ◌++◌}
use mathlib.Core.Bool.{Bool, true, false}
use Prim.Native.Nat.{ℕ, suc, ◌+◌, ◌-◌, ◌*◌, ◌/◌, ◌%◌, ◌<◌, ◌≤◌}
use native.Mathlib.Omega.{arith}
use lib.Dec.{eqb, ltb}
use lib.ListN.{length, drop, length-append}
use lib.Seq.{drop-drop, take-append_seam, drop-append_seam}
use borrow.Author.Tests.{eqb-true, eq-eqb, ne_eqb, lt-leb}
use Rattle.std.specs.Prelude.{None, Option, Some}
use Rattle.prelude.specs.Choice.{pick, no, both}
use Rattle.text.specs.Words.{ascii, begins, is_word, length_before}
use Rattle.prelude.specs.Numbers.{max_u64}
use Rattle.text.specs.Decimal.{decimal_of, decimal, digits_from}
use Rattle.text.specs.Hexadecimal.{bytes_of, hexadecimal, digit_of, Bytes}
use Rattle.text.proofs.Decimal.{number_read, read_digit}
use Rattle.text.proofs.Hexadecimal.{bytes_read, bytes_taken}
use Rattle.forms.specs.Forms.{kind_of, is_literal, opens, choice, words_of, maybe_words, pair_words, listed, is_good, Reading, Good, Bad, read_from, read_form}
use Rattle.forms.specs.Texts.{Value, number, some, absent, pair, unpaired, bytes, word, value_text, first_text, text_from, text, kind_of_value, InRange, FirstFits, Either, FitsFrom, Fits, spaced, is_form_from, is_form, width, value_in, values_from, part, valued, values_of}
use Rattle.forms.specs.declared.Kind.{Kind}
use Rattle.forms.specs.declared.Kind.TheVariants as kind
use Rattle.forms.specs.declared.Words.{Words}
use Rattle.forms.specs.declared.Words.TheVariants as words
use Rattle.forms.proofs.Only.{get, word_text}

-- ---- a text without a stop runs up to what follows it

run_on : (stop : ℕ) (s t : List ℕ) → length_before stop s ≡ length s → length_before stop (s ++ t) ≡ length s + length_before stop t
unfolding length_before
run_on stop [] t h = omega arith
run_on stop (b ∷ s) t h = go (eqb b stop) (run_on stop s t) h
  where
    go : (u : Bool) → (length_before stop s ≡ length s → length_before stop (s ++ t) ≡ length s + length_before stop t)
        → pick u 0 (suc (length_before stop s)) ≡ suc (length s) → pick u 0 (suc (length_before stop (s ++ t))) ≡ suc (length s) + length_before stop t
    go true f h = absurd (omega arith)
    go false f h = let l : length_before stop s ≡ length s = omega arith in omega (arith, f l)

run_both : (stop : ℕ) (s t : List ℕ) → length_before stop s ≡ length s → length_before stop t ≡ length t → length_before stop (s ++ t) ≡ length (s ++ t)
run_both stop s t h k = omega (arith, run_on stop s t h, length-append s t)

-- digits hold no byte outside 48 to 57
digits_run : (stop : ℕ) (t : List ℕ) (v : ℕ) {w : ℕ} → (48 ≤ stop → stop ≤ 57 → ⊥) → digits_from v t ≡ Some w → length_before stop t ≡ length t
unfolding length_before
digits_run stop [] v n e = refl
digits_run stop (d ∷ t) v n e =
    let q = read_digit v d t e in
    rw (ne_eqb d stop (λ g. n (omega arith) (omega arith)), digits_run stop t (v * 10 + (d - 48)) n q.3)

from_digits : (s : List ℕ) {v : ℕ} → decimal_of s ≡ Some v → digits_from 0 s ≡ Some v
unfolding decimal_of
from_digits [] e = let z : ◌≡◌ {A = ℕ} 0 1 = cc in absurd (omega arith)
from_digits (d ∷ []) e = e
from_digits (d ∷ b ∷ s) {v} e = go (eqb d 48) e
  where
    go : (t : Bool) → pick t None (digits_from 0 (d ∷ b ∷ s)) ≡ Some v → digits_from 0 (d ∷ b ∷ s) ≡ Some v
    go true e = let z : ◌≡◌ {A = ℕ} 0 1 = cc in absurd (omega arith)
    go false e = e

run_number : (stop v : ℕ) → (48 ≤ stop → stop ≤ 57 → ⊥) → v ≤ max_u64 → length_before stop (decimal v) ≡ length (decimal v)
run_number stop v n h = digits_run stop (decimal v) 0 n (from_digits (decimal v) (number_read v h))

digit_high : (d : ℕ) → 32 < digit_of d
digit_high d = go (ltb d 10)
  where
    go : (t : Bool) → 32 < pick t (48 + d) (87 + d)
    go true = omega arith
    go false = omega arith

run_hexadecimal : (s : List ℕ) → length_before 32 (hexadecimal s) ≡ length (hexadecimal s)
unfolding length_before hexadecimal
run_hexadecimal [] = refl
run_hexadecimal (b ∷ s) =
    rw (ne_eqb (digit_of (b / 16)) 32 (λ e. omega (arith, digit_high (b / 16))), ne_eqb (digit_of (b % 16)) 32 (λ e. omega (arith, digit_high (b % 16))), run_hexadecimal s)

run_none : length_before 32 (ascii "none") ≡ 4
unfolding length_before
run_none = refl

run_colon : length_before 32 (ascii ":") ≡ 1
unfolding length_before
run_colon = refl

run_dash : length_before 32 (ascii "-") ≡ 1
unfolding length_before
run_dash = refl

run_value : (ch : List ℕ) (v : Value) → InRange ch v → length_before 32 (value_text ch v) ≡ length (value_text ch v)
unfolding value_text InRange
run_value ch (number v) h = run_number 32 v (λ a b. omega arith) h
run_value ch (some v) h = run_number 32 v (λ a b. omega arith) h
run_value ch absent h = run_none
run_value ch (pair a b) h =
    run_both 32 (decimal a) (ascii ":" ++ decimal b) (run_number 32 a (λ a b. omega arith) h.0)
    (run_both 32 (ascii ":") (decimal b) run_colon (run_number 32 b (λ a b. omega arith) h.1))
run_value ch unpaired h = run_none
run_value ch (bytes []) h = run_dash
run_value ch (bytes (b ∷ s)) h = run_hexadecimal (b ∷ s)
run_value ch (word k) h = h.1

-- behind a value the text goes on with a space or ends
ends_there : (within : Bool) (form : List ℕ) (vs : List Value) → spaced within form ≡ true → length_before 32 (text_from within form vs) ≡ 0
unfolding text_from length_before kind_of
ends_there within [] vs h = refl
ends_there true (b ∷ form) vs h = ends_there (no (eqb b 41)) form vs h
ends_there false (b ∷ form) vs h = rw (eqb-true b 32 h) space
  where
    space : length_before 32 (text_from false (32 ∷ form) vs) ≡ 0
    space = refl

-- ---- a value

none_is_no_number : {v : ℕ} → decimal_of (ascii "none") ≡ Some v → ⊥
unfolding decimal_of digits_from
none_is_no_number e = let z : ◌≡◌ {A = ℕ} 0 1 = cc in omega arith

not_none : (v : ℕ) → v ≤ max_u64 → is_word (ascii "none") (decimal v) ≡ false
not_none v h = go (is_word (ascii "none") (decimal v)) refl
  where
    go : (t : Bool) → is_word (ascii "none") (decimal v) ≡ t → is_word (ascii "none") (decimal v) ≡ false
    go true e = absurd (none_is_no_number (ap decimal_of (sym (word_text (ascii "none") (decimal v) e)) ∙ number_read v h))
    go false e = e

no_colon : length_before 58 (ascii "none") ≡ 4
unfolding length_before
no_colon = refl

is_none : is_word (ascii "none") (ascii "none") ≡ true
unfolding is_word begins
is_none = refl

is_dash : is_word (ascii "-") (ascii "-") ≡ true
unfolding is_word begins
is_dash = refl

module _ (a b : ℕ) (ha : a ≤ max_u64) (hb : b ≤ max_u64) where
  abbrev both_text : List ℕ
  both_text = decimal a ++ (ascii ":" ++ decimal b)

  colon_at : length_before 58 both_text ≡ length (decimal a)
  unfolding length_before
  colon_at = let z : length_before 58 (ascii ":" ++ decimal b) ≡ 0 = refl in omega (arith, run_on 58 (decimal a) (ascii ":" ++ decimal b) (run_number 58 a (λ a b. omega arith) ha))

  pair_length : length both_text ≡ length (decimal a) + suc (length (decimal b))
  pair_length = length-append (decimal a) (ascii ":" ++ decimal b)

  pair_not_none : is_word (ascii "none") both_text ≡ false
  pair_not_none = go (is_word (ascii "none") both_text) refl
    where
      go : (t : Bool) → is_word (ascii "none") both_text ≡ t → is_word (ascii "none") both_text ≡ false
      go true e =
          let w = word_text (ascii "none") both_text e in
          let l : length both_text ≡ 4 = ap length w in
          let c : length_before 58 both_text ≡ 4 = ap (length_before 58) w ∙ no_colon in
          absurd (omega (arith, colon_at, pair_length))
      go false e = e

  second : drop (length (decimal a) + 1) both_text ≡ decimal b
  second = sym (drop-drop 1 (length (decimal a)) both_text) ∙ ap (drop 1) (drop-append_seam (decimal a) (ascii ":" ++ decimal b))

  pub pair_read : pair_words both_text ≡ Some (words.Three 1 a b)
  unfolding pair_words
  pair_read =
      rw (pair_not_none, colon_at, lt-leb (length both_text) (length (decimal a)) (omega (arith, pair_length)), take-append_seam (decimal a) (ascii ":" ++ decimal b), second, number_read a ha, number_read b hb)

-- a byte that stands for itself has no words
shut : (k : Kind) → is_literal k ≡ true → opens k ≡ false
shut kind.Literal e = refl
shut kind.Number e = refl
shut kind.Maybe e = refl
shut kind.Pair e = refl
shut kind.Bytes e = refl
shut kind.Choice e = sym e

both_true : (p q : Bool) → both p q ≡ true → (p ≡ true) × (q ≡ true)
both_true true q e = (refl, e)
both_true false q e = let z : ◌≡◌ {A = ℕ} 0 1 = cc in absurd (omega arith)

-- whatever gets the bytes that a line's digits stand for
module _ (line : List ℕ) (get : ℕ → ℕ → List ℕ) (none : (start : ℕ) → get start start ≡ [])
    (whole : (start end b : ℕ) (s : List ℕ) → Bytes (b ∷ s) → part line start end ≡ hexadecimal (b ∷ s) → get start end ≡ b ∷ s) where
  abbrev Had : List ℕ → Value → Option Words → List ℕ → Type 0
  Had ch v w ws = (is_good w ≡ true) × (value_in get (kind_of_value v) (listed w ++ ws) ≡ v) × (drop (width (kind_of_value v)) (listed w ++ ws) ≡ ws)

  had_some : (v : ℕ) (ws : List ℕ) → v ≤ max_u64 → Had [] (some v) (maybe_words (decimal v)) ws
  unfolding maybe_words value_in kind_of_value
  had_some v ws h = rw (not_none v h, number_read v h) (refl, refl, refl)

  had_absent : (ws : List ℕ) → Had [] absent (maybe_words (ascii "none")) ws
  unfolding maybe_words value_in kind_of_value
  had_absent ws = rw is_none (refl, refl, refl)

  had_unpaired : (ws : List ℕ) → Had [] unpaired (pair_words (ascii "none")) ws
  unfolding pair_words value_in kind_of_value
  had_unpaired ws = rw is_none (refl, refl, refl)

  not_dash : (b : ℕ) (s : List ℕ) → is_word (ascii "-") (hexadecimal (b ∷ s)) ≡ false
  unfolding is_word hexadecimal
  not_dash b s = rw (ne_eqb (suc (suc (length (hexadecimal s)))) 1 (λ e. omega arith))

  not_empty : (b : ℕ) (s : List ℕ) → eqb (length (hexadecimal (b ∷ s))) 0 ≡ false
  unfolding hexadecimal
  not_empty b s = ne_eqb (suc (suc (length (hexadecimal s)))) 0 (λ e. omega arith)

  had : (ch : List ℕ) (v : Value) (start end : ℕ) (ws : List ℕ) → InRange ch v → part line start end ≡ value_text ch v
      → Had ch v (words_of (kind_of_value v) ch (value_text ch v) start end) ws
  unfolding words_of value_text value_in kind_of_value InRange
  had ch (number v) start end ws h p = rw (number_read v h) (refl, refl, refl)
  had ch (some v) start end ws h p = had_some v ws h
  had ch absent start end ws h p = had_absent ws
  had ch (pair a b) start end ws h p = rw (pair_read a b h.0 h.1) (refl, refl, refl)
  had ch unpaired start end ws h p = had_unpaired ws
  had ch (bytes []) start end ws h p = rw is_dash (refl, ap bytes (none start), refl)
  had ch (bytes (b ∷ s)) start end ws h p =
      rw (not_dash b s, not_empty b s, bytes_taken (b ∷ s) h) (refl, ap bytes (whole start end b s h p), refl)
  had ch (word k) start end ws h p = rw h.0 (refl, refl, refl)

  -- ---- a line

  abbrev Found : Bool → List ℕ → ℕ → List Value → Type 0
  Found within form at vs = (ws : List ℕ) × (read_from within form at (text_from within form vs) ≡ Good ws) × (values_from get within form ws ≡ vs)

  abbrev Rest : ℕ → List ℕ → Type 0
  Rest b form = (n : ℕ) (us : List Value) → is_form_from (opens (kind_of b)) form ≡ true → FitsFrom (opens (kind_of b)) form us
      → drop n line ≡ text_from (opens (kind_of b)) form us → Found (opens (kind_of b)) form n us

  byte_step : (b : ℕ) (form : List ℕ) (at : ℕ) (vs : List Value) → is_literal (kind_of b) ≡ true → (ws : List ℕ)
      → read_from (opens (kind_of b)) form (at + 1) (text_from (opens (kind_of b)) form vs) ≡ Good ws → values_from get (opens (kind_of b)) form ws ≡ vs
      → Found false (b ∷ form) at vs
  unfolding read_from text_from values_from begins
  byte_step b form at vs e ws p q = let o = shut (kind_of b) e in (ws, rw (e, eq-eqb b b refl) (rw o at p), rw e (rw o at q))

  value_step : (b : ℕ) (form : List ℕ) (at : ℕ) (v : Value) (us : List Value) → is_literal (kind_of b) ≡ false → kind_of_value v ≡ kind_of b
      → length_before 32 (value_text (choice (kind_of b) form) v ++ text_from (opens (kind_of b)) form us) ≡ length (value_text (choice (kind_of b) form) v)
      → (ws : List ℕ)
      → read_from (opens (kind_of b)) form (at + length (value_text (choice (kind_of b) form) v)) (text_from (opens (kind_of b)) form us) ≡ Good ws
      → values_from get (opens (kind_of b)) form ws ≡ us
      → Had (choice (kind_of b) form) v
      (words_of (kind_of_value v) (choice (kind_of b) form) (value_text (choice (kind_of b) form) v) at (at + length (value_text (choice (kind_of b) form) v))) ws
      → Found false (b ∷ form) at (v ∷ us)
  unfolding read_from text_from values_from
  value_step b form at v us e k r ws p q y =
      let t = value_text (choice (kind_of b) form) v in
      let rest = text_from (opens (kind_of b)) form us in
      let x = rw k at y in
      (listed (words_of (kind_of b) (choice (kind_of b) form) t at (at + length t)) ++ ws, rw (e, r, take-append_seam t rest, drop-append_seam t rest, x.0, p), rw (e, x.1, x.2, q))

  at_byte : (b : ℕ) (form : List ℕ) (at : ℕ) (vs : List Value) → is_literal (kind_of b) ≡ true → is_form_from (opens (kind_of b)) form ≡ true
      → FitsFrom (opens (kind_of b)) form vs → drop at line ≡ b ∷ text_from (opens (kind_of b)) form vs → Rest b form → Found false (b ∷ form) at vs
  at_byte b form at vs e g h d f =
      let q = f (at + 1) vs g h (sym (drop-drop 1 at line) ∙ ap (drop 1) d) in
      byte_step b form at vs e q.0 q.1 q.2

  at_value : (b : ℕ) (form : List ℕ) (at : ℕ) (vs : List Value) → is_literal (kind_of b) ≡ false
      → both (spaced (opens (kind_of b)) form) (is_form_from (opens (kind_of b)) form) ≡ true
      → FirstFits (kind_of b) (choice (kind_of b) form) vs → FitsFrom (opens (kind_of b)) form (drop 1 vs)
      → drop at line ≡ first_text (choice (kind_of b) form) vs ++ text_from (opens (kind_of b)) form (drop 1 vs) → Rest b form → Found false (b ∷ form) at vs
  at_value b form at [] e g h i d f = absurd h
  at_value b form at (v ∷ us) e g h i d f =
      let ch = choice (kind_of b) form in
      let t = value_text (choice (kind_of b) form) v in
      let rest = text_from (opens (kind_of b)) form us in
      let s = both_true (spaced (opens (kind_of b)) form) (is_form_from (opens (kind_of b)) form) g in
      let r : length_before 32 (t ++ rest) ≡ length t = omega (arith, run_on 32 t rest (run_value ch v h.1), ends_there (opens (kind_of b)) form us s.0) in
      let q = f (at + length t) us s.1 i (sym (drop-drop (length t) at line) ∙ ap (drop (length t)) d ∙ drop-append_seam t rest) in
      let z : at + length t - at ≡ length t = omega arith in
      let p : part line at (at + length t) ≡ t = rw (z, d) (take-append_seam t rest) in
      value_step b form at v us e h.0 r q.0 q.1 q.2 (had ch v at (at + length t) q.0 h.1 p)

  found : (within : Bool) (form : List ℕ) (at : ℕ) (vs : List Value) → is_form_from within form ≡ true → FitsFrom within form vs
      → drop at line ≡ text_from within form vs → Found within form at vs
  unfolding read_from text_from values_from is_form_from FitsFrom
  found within [] at [] g h d = ([], refl, refl)
  found within [] at (v ∷ vs) g h d = absurd h
  found true (b ∷ form) at vs g h d = found (no (eqb b 41)) form at vs g h d
  found false (b ∷ form) at vs g h d = go (is_literal (kind_of b)) refl g h d (λ n us g h e. found (opens (kind_of b)) form n us g h e)
    where
      go : (t : Bool) → is_literal (kind_of b) ≡ t
          → both (pick t true (spaced (opens (kind_of b)) form)) (is_form_from (opens (kind_of b)) form) ≡ true
          → Either t (FitsFrom false form vs) (FirstFits (kind_of b) (choice (kind_of b) form) vs × FitsFrom (opens (kind_of b)) form (drop 1 vs))
          → drop at line ≡ pick t (b ∷ text_from false form vs) (first_text (choice (kind_of b) form) vs ++ text_from (opens (kind_of b)) form (drop 1 vs))
          → Rest b form → Found false (b ∷ form) at vs
      go true e g h d f =
          let o = shut (kind_of b) e in
          at_byte b form at vs e g (rw o h) (rw o d) f
      go false e g h d f = at_value b form at vs e g h.0 h.1 d f

no_bytes : (line : List ℕ) (start : ℕ) → get line start start ≡ []
unfolding bytes_of
no_bytes line start = let z : start - start ≡ 0 = omega arith in rw z

all_bytes : (line : List ℕ) (start end b : ℕ) (s : List ℕ) → Bytes (b ∷ s) → part line start end ≡ hexadecimal (b ∷ s) → get line start end ≡ b ∷ s
all_bytes line start end b s h p = ap bytes_of p ∙ bytes_read (b ∷ s) h

pub back : (form : List ℕ) (vs : List Value) → is_form form ≡ true → Fits form vs → values_of form (text form vs) ≡ Good vs
unfolding values_of read_form text is_form Fits
back form vs g h = let q = found (text_from false form vs) (get (text_from false form vs)) (no_bytes (text_from false form vs)) (all_bytes (text_from false form vs)) false form 0 vs g h refl in rw (q.1, q.2)

-- what is read as values is read as words that stand for them
pub values_read : (form line : List ℕ) (vs : List Value) → values_of form line ≡ Good vs
    → (ws : List ℕ) × (read_form form line ≡ Good ws) × (values_from (get line) false form ws ≡ vs)
unfolding values_of
values_read form line vs = go (read_form form line) refl
  where
    go : (r : Reading (List ℕ)) → read_form form line ≡ r → valued form line r ≡ Good vs → (ws : List ℕ) × (read_form form line ≡ Good ws) × (values_from (get line) false form ws ≡ vs)
    go (Good ws) e h = (ws, e, cc)
    go Bad e h = let z : ◌≡◌ {A = ℕ} 0 1 = cc in absurd (omega arith)

-- ---- bytes of which there are none start where they end

filled : List ℕ → List ℕ
filled [] = 0 ∷ []
filled (b ∷ s) = b ∷ s

-- the bytes from a place up to another; where the two are not the same, some
pub got : List ℕ → ℕ → ℕ → List ℕ
got line start end = pick (eqb start end) [] (filled (get line start end))

pub got_none : (line : List ℕ) (start end : ℕ) → got line start end ≡ [] → start ≡ end
unfolding got filled
got_none line start end = go (eqb start end) refl (get line start end)
  where
    go : (t : Bool) → eqb start end ≡ t → (s : List ℕ) → pick t [] (filled s) ≡ [] → start ≡ end
    go true e s h = eqb-true start end e
    go false e [] h = let z : ◌≡◌ {A = ℕ} 0 1 = ap length (sym h) in absurd (omega arith)
    go false e (b ∷ s) h = let z : suc (length s) ≡ 0 = ap length h in absurd (omega arith)

nowhere : (line : List ℕ) (start : ℕ) → got line start start ≡ []
unfolding got
nowhere line start = rw (eq-eqb start start refl)

somewhere : (line : List ℕ) (start end b : ℕ) (s : List ℕ) → Bytes (b ∷ s) → part line start end ≡ hexadecimal (b ∷ s) → got line start end ≡ b ∷ s
unfolding got filled hexadecimal
somewhere line start end b s h p = rw (ne_eqb start end apart, all_bytes line start end b s h p)
  where
    apart : start ≡ end → ⊥
    apart e =
        let z : end - start ≡ 0 = omega arith in
        let l : length (part line start end) ≡ 0 = rw z in
        let k : length (part line start end) ≡ suc (suc (length (hexadecimal s))) = ap length p in
        absurd (omega arith)

-- the words that a line of values is read as: they stand for those values, and for those whose empty bytes start where they end
pub words_read : (form : List ℕ) (vs : List Value) → is_form form ≡ true → Fits form vs
    → (ws : List ℕ) × (read_form form (text form vs) ≡ Good ws) × (values_from (get (text form vs)) false form ws ≡ vs) × (values_from (got (text form vs)) false form ws ≡ vs)
unfolding read_form text is_form Fits
words_read form vs g h =
    let line = text_from false form vs in
    let p = found (text_from false form vs) (get (text_from false form vs)) (no_bytes (text_from false form vs)) (all_bytes (text_from false form vs)) false form 0 vs g h refl in
    let q = found (text_from false form vs) (got (text_from false form vs)) (nowhere (text_from false form vs)) (somewhere (text_from false form vs)) false form 0 vs g h refl in
    let e : p.0 ≡ q.0 = same p.0 q.0 (sym p.1 ∙ q.1) in
    (p.0, p.1, p.2, rw (sym e) at q.2)
  where
    same : (a b : List ℕ) → ◌≡◌ {A = Reading (List ℕ)} (Good a) (Good b) → a ≡ b
    same a b e = cc
