-- A line read by its form, a byte or a value at a time. Assumes nothing.
use mathlib.Core.Path.{◌≡◌, refl, sym, ap, ◌∙◌}
use mathlib.Core.List.{List, [], ◌∷◌, ◌++◌, append_assoc, append-nil}
use mathlib.Core.Bool.{Bool, true, false}
use Prim.Native.Nat.{ℕ, suc, ◌+◌, ◌-◌, ◌<◌, ◌≤◌}
use native.Mathlib.Omega.{arith}
use lib.Dec.{eqb, ltb}
use lib.ListN.{length, take, drop, get_or, length-drop, drop_of_length-le}
use lib.Seq.{drop-drop}
use borrow.Author.Tests.{eq-eqb, ne_eqb, eqb-true, eqb-false, ltb-true, ltb-false}
use Rattle.std.specs.Prelude.{Option}
use Rattle.prelude.specs.Choice.{pick, no}
use Rattle.text.specs.Words.{begins, length_before}
use Rattle.text.specs.Printed.{printed}
use Rattle.text.proofs.Reading.{at, before_within}
use Rattle.text.proofs.Printing.{Laid, laid_none, rest_of, then}
use Rattle.forms.specs.Forms.{kind_of, is_literal, opens, choice_length, choice, behind_choice, words_of, listed, is_good, Reading, Good, Bad, prepend, followed, read_from, read_form, is_read, words_from, Stored}
use Rattle.forms.specs.declared.Kind.{Kind}
use Rattle.forms.specs.declared.Words.{Words}

pub literal : {r t : Bool} {k : Kind} (b : ℕ) → r ≡ is_literal k → k ≡ kind_of b → r ≡ t → is_literal (kind_of b) ≡ t
literal b e f g = rw (← f, ← e) g

pub value_fits : (line : List ℕ) (i : ℕ) {n : ℕ} → i ≤ length line → n ≡ length_before 32 (take (length line - i) (drop i line)) → i + n ≤ length line
value_fits line i {n} h e =
    let q : n ≡ length_before 32 (drop i line) = e ∙ ap (length_before 32) (rest_of line i) in
    omega (arith, before_within 32 (drop i line), length-drop i line)

pub put : {o : List ℕ} {p : ℕ} {x : List ℕ} {q : ℕ} {w v : Option Words} → w ≡ v → Laid o p (listed v) x q → Laid o p (listed w) x q
put e l = rw e l

-- ---- the form behind a mark

-- within the words of a choice the form goes on behind their `)`
skip : (form : List ℕ) (at : ℕ) (s : List ℕ) → read_from true form at s ≡ read_from false (drop (suc (length_before 41 form)) form) at s
unfolding read_from length_before
skip [] at [] = refl
skip [] at (a ∷ s) = refl
skip (b ∷ form) at s = go (eqb b 41) (skip form at s)
  where
    go : (t : Bool) → read_from true form at s ≡ read_from false (drop (suc (length_before 41 form)) form) at s
        → read_from (no t) form at s ≡ read_from false (drop (suc (pick t 0 (suc (length_before 41 form)))) (b ∷ form)) at s
    go true e = refl
    go false e = e

skip_words : (form : List ℕ) (at : ℕ) (s : List ℕ) → words_from true form at s ≡ words_from false (drop (suc (length_before 41 form)) form) at s
unfolding words_from length_before
skip_words [] at s = refl
skip_words (b ∷ form) at s = go (eqb b 41) (skip_words form at s)
  where
    go : (t : Bool) → words_from true form at s ≡ words_from false (drop (suc (length_before 41 form)) form) at s
        → words_from (no t) form at s ≡ words_from false (drop (suc (pick t 0 (suc (length_before 41 form)))) (b ∷ form)) at s
    go true e = refl
    go false e = e

pub choice_fits : (form : List ℕ) (k : Kind) (g : ℕ) {n : ℕ} → g ≤ length form → n ≡ choice_length k (take (length form - g) (drop g form)) → g + n ≤ length form
choice_fits form k g {n} h e = go (opens k) (e ∙ ap (choice_length k) (rest_of form g))
  where
    go : (t : Bool) → n ≡ pick t (length_before 41 (drop g form)) 0 → g + n ≤ length form
    go true z = omega (arith, before_within 41 (drop g form), length-drop g form)
    go false z = omega arith

-- what goes through a form so goes on behind a mark at the place that `behind_choice` says
module _ {A : Type 0} (P : Bool → List ℕ → A) (skips : (form : List ℕ) → P true form ≡ P false (drop (suc (length_before 41 form)) form))
    (form : List ℕ) (g : ℕ) where
  behind_words : (n : ℕ) → n ≡ length_before 41 (drop g form) → (t : Bool) → ltb (g + n) (length form) ≡ t
      → P true (drop g form) ≡ P false (drop (pick t (g + n + 1) (g + n)) form)
  behind_words n e true f =
      let z : g + suc n ≡ g + n + 1 = omega arith in
      skips (drop g form) ∙ rw (← e, drop-drop (suc n) g form, z)
  behind_words n e false f =
      let l : length form ≤ g + n = ltb-false _ _ f in
      let m : length form ≤ g + suc n = omega arith in
      skips (drop g form) ∙ rw (← e, drop-drop (suc n) g form, drop_of_length-le form m, drop_of_length-le form l)

  pub goes_on : (k : Kind) → P (opens k) (drop g form) ≡ P false (drop (behind_choice k (g + choice_length k (drop g form)) (length form)) form)
  goes_on k = go (opens k)
    where
      go : (t : Bool) → P t (drop g form)
          ≡ P false (drop (pick t (pick (ltb (g + pick t (length_before 41 (drop g form)) 0) (length form)) (g + pick t (length_before 41 (drop g form)) 0 + 1) (g + pick t (length_before 41 (drop g form)) 0)) (g + pick t (length_before 41 (drop g form)) 0)) form)
      go true = behind_words (length_before 41 (drop g form)) refl (ltb (g + length_before 41 (drop g form)) (length form)) refl
      go false = let z : g + 0 ≡ g = omega arith in rw z

pub behind_fits : (k : Kind) (c size g : ℕ) → g ≤ c → c ≤ size → (g ≤ behind_choice k c size) × (behind_choice k c size ≤ size)
behind_fits k c size g h l = go (opens k) (ltb c size) refl
  where
    go : (t u : Bool) → ltb c size ≡ u → (g ≤ pick t (pick u (c + 1) c) c) × (pick t (pick u (c + 1) c) c ≤ size)
    go true true e = let m : c < size = ltb-true _ _ e in (omega arith, omega arith)
    go true false e = (omega arith, omega arith)
    go false u e = (omega arith, omega arith)

pub next_fits : (form : List ℕ) (k : Kind) (f : ℕ) {p q : ℕ} → f < length form → p ≡ choice_length k (take (length form - (f + 1)) (drop (f + 1) form))
    → q ≡ behind_choice k (f + 1 + p) (length form) → (f + 1 ≤ q) × (q ≤ length form)
next_fits form k f {p} h e d = rw d (behind_fits k (f + 1 + p) (length form) (f + 1) (omega arith) (choice_fits form k (f + 1) (omega arith) e))

-- ---- a line read up to a place, by a form up to a place

pub record Walked (form line : List ℕ) (before : List ℕ) (f i : ℕ) (got : List ℕ) (n : ℕ) : Type 0 where
  pub ws : List ℕ
  pub rest : read_form form line ≡ prepend ws (read_from false (drop f form) i (drop i line))
  pub words : words_from false form 0 line ≡ ws ++ words_from false (drop f form) i (drop i line)
  pub stored : Laid before 0 ws got n

prepend_none : (r : Reading (List ℕ)) → r ≡ prepend [] r
prepend_none (Good vs) = refl
prepend_none Bad = refl

prepend_twice : (a b : List ℕ) (r : Reading (List ℕ)) → prepend a (prepend b r) ≡ prepend (a ++ b) r
prepend_twice a b (Good vs) = rw (append_assoc a b vs)
prepend_twice a b Bad = refl

pub begin : (form line before : List ℕ) → Walked form line before 0 0 before 0
unfolding read_form
begin form line before = record { ws = []; rest = prepend_none (read_from false form 0 line); words = refl; stored = laid_none before 0 }

-- what a line of another form says
pub unread : (form line before after : List ℕ) {ws : List ℕ} {n : ℕ} → (read_form form line ≡ Bad) × (words_from false form 0 line ≡ ws) → Laid before 0 ws after n
    → (false ≡ is_read (read_form form line)) × Stored form line before after
unread form line before after e l = (ap is_read (sym e.0), l.bytes ∙ ap (printed before 0) (sym e.1))

module _ {form line before : List ℕ} {f i : ℕ} {got : List ℕ} {n : ℕ} (w : Walked form line before f i got n) (hf : f < length form) where
  open w use {ws, rest, words, stored}

  pub cut_off : is_literal (kind_of (get_or form f 0)) ≡ true → length line ≤ i → (read_form form line ≡ Bad) × (words_from false form 0 line ≡ ws)
  unfolding read_from words_from begins
  cut_off l h = (rest ∙ rw (at form f hf, l, drop_of_length-le line h), words ∙ rw (at form f hf, l, drop_of_length-le line h) (append-nil ws))

  pub other_byte : is_literal (kind_of (get_or form f 0)) ≡ true → i < length line → (get_or line i 0 ≡ get_or form f 0 → ⊥)
      → (read_form form line ≡ Bad) × (words_from false form 0 line ≡ ws)
  unfolding read_from words_from begins
  other_byte l h d =
      (rest ∙ rw (at form f hf, l, at line i h, ne_eqb (get_or line i 0) (get_or form f 0) d), words ∙ rw (at form f hf, l, at line i h, ne_eqb (get_or line i 0) (get_or form f 0) d) (append-nil ws))

  pub same_byte : is_literal (kind_of (get_or form f 0)) ≡ true → i < length line → get_or line i 0 ≡ get_or form f 0 → Walked form line before (f + 1) (i + 1) got n
  unfolding read_from words_from begins
  same_byte l h d =
      record {
        ws = ws;
        rest = rest ∙ rw (at form f hf, l, at line i h, eq-eqb (get_or line i 0) (get_or form f 0) d);
        words = words ∙ rw (at form f hf, l, at line i h, eq-eqb (get_or line i 0) (get_or form f 0) d);
        stored = stored;
      }

  module _ {k : Kind} {m p : ℕ} {v : Option Words} (ek : k ≡ kind_of (get_or form f 0)) (l : is_literal k ≡ false) (hi : i ≤ length line)
      (em : m ≡ length_before 32 (take (length line - i) (drop i line)))
      (ep : p ≡ choice_length k (take (length form - (f + 1)) (drop (f + 1) form)))
      (ev : v ≡ words_of k (take (f + 1 + p - (f + 1)) (drop (f + 1) form)) (take (i + m - i) (drop i line)) i (i + m)) where
    value_here : read_form form line ≡ prepend ws (followed v (read_from (opens k) (drop (f + 1) form) (i + m) (drop (i + m) line)))
    unfolding read_from
    value_here =
        let y : i + m - i ≡ m = omega arith in
        let z : f + 1 + p - (f + 1) ≡ p = omega arith in
        let u : m ≡ length_before 32 (drop i line) = em ∙ ap (length_before 32) (rest_of line i) in
        let o : p ≡ choice_length k (drop (f + 1) form) = ep ∙ ap (choice_length k) (rest_of form (f + 1)) in
        let x : v ≡ words_of k (choice k (drop (f + 1) form)) (take (length_before 32 (drop i line)) (drop i line)) i (i + length_before 32 (drop i line)) = ev ∙ rw (y, z, o, u) in
        rest ∙ rw (at form f hf, ← ek, l, ← x, ← u, drop-drop m i line)

    words_here : words_from false form 0 line ≡ ws ++ (listed v ++ pick (is_good v) (words_from (opens k) (drop (f + 1) form) (i + m) (drop (i + m) line)) [])
    unfolding words_from
    words_here =
        let y : i + m - i ≡ m = omega arith in
        let z : f + 1 + p - (f + 1) ≡ p = omega arith in
        let u : m ≡ length_before 32 (drop i line) = em ∙ ap (length_before 32) (rest_of line i) in
        let o : p ≡ choice_length k (drop (f + 1) form) = ep ∙ ap (choice_length k) (rest_of form (f + 1)) in
        let x : v ≡ words_of k (choice k (drop (f + 1) form)) (take (length_before 32 (drop i line)) (drop i line)) i (i + length_before 32 (drop i line)) = ev ∙ rw (y, z, o, u) in
        words ∙ rw (at form f hf, ← ek, l, ← x, ← u, drop-drop m i line)

    pub bad_value : is_good v ≡ false → (read_form form line ≡ Bad) × (words_from false form 0 line ≡ ws ++ listed v)
    bad_value b = (value_here ∙ rw b, words_here ∙ rw (b, append-nil (listed v)))

    pub bad_stored : {out : List ℕ} {j : ℕ} → Laid got n (listed v) out j → Laid before 0 (ws ++ listed v) out j
    bad_stored d = then stored d

    pub good_value : {q : ℕ} {out : List ℕ} {j : ℕ} → is_good v ≡ true → q ≡ behind_choice k (f + 1 + p) (length form) → Laid got n (listed v) out j
        → Walked form line before q (i + m) out j
    good_value {q} {out} {j} b e d =
        let o : p ≡ choice_length k (drop (f + 1) form) = ep ∙ ap (choice_length k) (rest_of form (f + 1)) in
        record {
          ws = ws ++ listed v;
          rest = value_here ∙ rw (b, goes_on (λ within rest. read_from within rest (i + m) (drop (i + m) line)) (λ rest. skip rest (i + m) (drop (i + m) line)) form (f + 1) k, ← o, ← e) (prepend_twice ws (listed v) (read_from false (drop q form) (i + m) (drop (i + m) line)));
          words = words_here ∙ rw (b, goes_on (λ within rest. words_from within rest (i + m) (drop (i + m) line)) (λ rest. skip_words rest (i + m) (drop (i + m) line)) form (f + 1) k, ← o, ← e) (sym (append_assoc ws (listed v) (words_from false (drop q form) (i + m) (drop (i + m) line))));
          stored = then stored d;
        }

-- ---- the form's end

module _ {form line before : List ℕ} {f i : ℕ} {got : List ℕ} {n : ℕ} (w : Walked form line before f i got n) (hf : length form ≤ f) where
  open w use {ws, rest, words, stored}

  all_words : words_from false form 0 line ≡ ws
  unfolding words_from
  all_words = words ∙ rw (drop_of_length-le form hf, append-nil ws)

  pub bytes_left : i < length line → (read_form form line ≡ Bad) × (words_from false form 0 line ≡ ws)
  unfolding read_from
  bytes_left h = (rest ∙ rw (drop_of_length-le form hf, at line i h), all_words)

  pub whole : length line ≤ i → read_form form line ≡ Good ws
  unfolding read_from
  whole h = rest ∙ rw (drop_of_length-le form hf, drop_of_length-le line h, append-nil ws)

  pub all_read : length line ≤ i → (true ≡ is_read (read_form form line)) × Stored form line before got
  all_read h = (ap is_read (sym (whole h)), stored.bytes ∙ ap (printed before 0) (sym all_words))

  pub finished : i ≤ length line → (eqb i (length line) ≡ is_read (read_form form line)) × Stored form line before got
  finished h = go (eqb i (length line)) refl
    where
      go : (t : Bool) → eqb i (length line) ≡ t → (t ≡ is_read (read_form form line)) × Stored form line before got
      go true e = all_read (omega (arith, eqb-true _ _ e))
      go false e = unread form line before got (bytes_left (omega (arith, eqb-false _ _ e))) stored
