-- A line that is read is the text of its values. Assumes nothing.
use mathlib.Core.Path.{◌≡◌, refl, sym, ap, ◌∙◌}
use mathlib.Core.List.{List, [], ◌∷◌, ◌++◌, append-nil}
use mathlib.Core.Bool.{Bool, true, false}
use Prim.Native.Nat.{ℕ, suc, ◌+◌, ◌-◌, ◌<◌, ◌≤◌}
use native.Mathlib.Numerals.{add-one}
use native.Mathlib.Omega.{arith}
use lib.Dec.{eqb, leb}
use lib.ListN.{length, take, drop, get_or, take-append-drop, drop_of_length-le}
use lib.Seq.{drop-drop}
use borrow.Author.Tests.{eqb-true, eqb-false, leb-false}
use Rattle.std.specs.Prelude.{None, Option, Some, ℕ}
use Rattle.prelude.specs.Choice.{pick, no, both}
use Rattle.text.specs.Words.{ascii, begins, is_word, length_before}
use Rattle.text.specs.Decimal.{decimal_of}
use Rattle.text.specs.Hexadecimal.{is_hexadecimal, bytes_of, bytes_text, hexadecimal}
use Rattle.text.proofs.Decimal.{number_text, begins_split}
use Rattle.text.proofs.Hexadecimal.{text_of_bytes}
use Rattle.forms.specs.Forms.{kind_of, is_literal, opens, choice, split, which_word, words_of, number_words, some_words, maybe_words, both_words, pair_words, listed, is_good, Reading, Good, Bad, prepend, followed, read_from, read_form}
use Rattle.forms.specs.Texts.{Value, value_text, text_from, text, width, value_in, values_from, part, valued, values_of}
use Rattle.forms.specs.declared.Kind.{Kind}
use Rattle.forms.specs.declared.Kind.TheVariants as kind
use Rattle.forms.specs.declared.Words.{Words}
use Rattle.forms.specs.declared.Words.TheVariants as words

-- ---- texts

pub word_text : (w s : List ℕ) → is_word w s ≡ true → s ≡ w
unfolding is_word
word_text w s = go (eqb (length s) (length w)) refl
  where
    go : (t : Bool) → eqb (length s) (length w) ≡ t → both t (begins w s) ≡ true → s ≡ w
    go true e h =
        let l : length s ≤ length w = omega (arith, eqb-true (length s) (length w) e) in
        begins_split w s h ∙ rw (drop_of_length-le s l, append-nil w)
    go false e h = let z : ◌≡◌ {A = ℕ} 0 1 = cc in absurd (omega arith)

-- a text with a stop in it: what stands before it, the stop, and the rest
stop_split : (stop : ℕ) (s : List ℕ) → length_before stop s < length s → s ≡ take (length_before stop s) s ++ (stop ∷ drop (suc (length_before stop s)) s)
unfolding length_before
stop_split stop [] h = absurd (omega arith)
stop_split stop (b ∷ s) h = go (eqb b stop) refl (stop_split stop s) h
  where
    go : (t : Bool) → eqb b stop ≡ t → (length_before stop s < length s → s ≡ take (length_before stop s) s ++ (stop ∷ drop (suc (length_before stop s)) s))
        → pick t 0 (suc (length_before stop s)) < suc (length s)
        → b ∷ s ≡ take (pick t 0 (suc (length_before stop s))) (b ∷ s) ++ (stop ∷ drop (suc (pick t 0 (suc (length_before stop s)))) (b ∷ s))
    go true e f h = rw (eqb-true b stop e)
    go false e f h = ap (λ (t : List ℕ). b ∷ t) (f (omega arith))

-- bytes of which there are some are their pairs of digits
some_bytes : (s t : List ℕ) → hexadecimal s ≡ t → (length t ≡ 0 → ⊥) → bytes_text s ≡ t
unfolding hexadecimal
some_bytes [] t e h = absurd (h (ap length (sym e)))
some_bytes (b ∷ s) t e h = e

-- a word that is found is one of the words
pub found : (k : ℕ) (ws : List (List ℕ)) (value : List ℕ) → is_good (which_word k ws value) ≡ true
    → (n : ℕ) × (which_word k ws value ≡ Some (words.One (k + n))) × (get_or ws n [] ≡ value)
unfolding which_word
found k [] value h = let z : ◌≡◌ {A = ℕ} 0 1 = cc in absurd (omega arith)
found k (w ∷ ws) value h = go (is_word w value) refl (found (suc k) ws value) h
  where
    go : (t : Bool) → is_word w value ≡ t
        → (is_good (which_word (suc k) ws value) ≡ true → (n : ℕ) × (which_word (suc k) ws value ≡ Some (words.One (suc k + n))) × (get_or ws n [] ≡ value))
        → is_good (pick t (Some (words.One k)) (which_word (suc k) ws value)) ≡ true
        → (n : ℕ) × (pick t (Some (words.One k)) (which_word (suc k) ws value) ≡ Some (words.One (k + n))) × (get_or (w ∷ ws) n [] ≡ value)
    go true e f h = let z : k + 0 ≡ k = omega arith in (0, rw z, sym (word_text w value e))
    go false e f h =
        let q = f h in
        let z : suc k + q.0 ≡ k + suc q.0 = omega arith in
        (suc q.0, q.1 ∙ rw z, q.2)

-- ---- a value

no_bytes : bytes_text (bytes_of []) ≡ ascii "-"
unfolding bytes_of
no_bytes = refl

module _ (line : List ℕ) where
  abbrev pub get : ℕ → ℕ → List ℕ
  get = λ start end. bytes_of (part line start end)

  abbrev Told : Kind → List ℕ → List ℕ → Option Words → List ℕ → Type 0
  Told k ch value w ws = (value_text ch (value_in get k (listed w ++ ws)) ≡ value) × (drop (width k) (listed w ++ ws) ≡ ws)

  told_maybe : (ch value ws : List ℕ) → is_good (maybe_words value) ≡ true → Told kind.Maybe ch value (maybe_words value) ws
  unfolding maybe_words value_text value_in
  told_maybe ch value ws h = go (is_word (ascii "none") value) refl (decimal_of value) refl h
    where
      go : (t : Bool) → is_word (ascii "none") value ≡ t → (r : Option ℕ) → decimal_of value ≡ r
          → is_good (pick t (Some (words.Two 0 0)) (some_words r)) ≡ true
          → Told kind.Maybe ch value (pick t (Some (words.Two 0 0)) (some_words r)) ws
      go true e r f h = (sym (word_text (ascii "none") value e), refl)
      go false e (Some v) f h = (number_text value f, refl)
      go false e None f h = let z : ◌≡◌ {A = ℕ} 0 1 = cc in absurd (omega arith)

  told_pair : (ch value ws : List ℕ) → is_good (pair_words value) ≡ true → Told kind.Pair ch value (pair_words value) ws
  unfolding pair_words value_text value_in
  told_pair ch value ws h =
      go (is_word (ascii "none") value) refl (leb (length value) (length_before 58 value)) refl (decimal_of (take (length_before 58 value) value)) refl (decimal_of (drop (length_before 58 value + 1) value)) refl h
    where
      go : (t : Bool) → is_word (ascii "none") value ≡ t → (u : Bool) → leb (length value) (length_before 58 value) ≡ u
          → (x : Option ℕ) → decimal_of (take (length_before 58 value) value) ≡ x → (y : Option ℕ) → decimal_of (drop (length_before 58 value + 1) value) ≡ y
          → is_good (pick t (Some (words.Three 0 0 0)) (pick u None (both_words x y))) ≡ true
          → Told kind.Pair ch value (pick t (Some (words.Three 0 0 0)) (pick u None (both_words x y))) ws
      go true e u f x i y j h = (sym (word_text (ascii "none") value e), refl)
      go false e true f x i y j h = let z : ◌≡◌ {A = ℕ} 0 1 = cc in absurd (omega arith)
      go false e false f (Some a) i (Some b) j h =
          (rw (number_text (take (length_before 58 value) value) i, number_text (drop (length_before 58 value + 1) value) j, add-one (length_before 58 value)) (sym (stop_split 58 value (leb-false _ _ f))), refl)
      go false e false f (Some a) i None j h = let z : ◌≡◌ {A = ℕ} 0 1 = cc in absurd (omega arith)
      go false e false f None i y j h = let z : ◌≡◌ {A = ℕ} 0 1 = cc in absurd (omega arith)

  told : (k : Kind) (ch value : List ℕ) (start end : ℕ) (ws : List ℕ) → part line start end ≡ value → is_good (words_of k ch value start end) ≡ true
      → Told k ch value (words_of k ch value start end) ws
  unfolding words_of value_text value_in
  told kind.Literal ch value start end ws p h = let z : ◌≡◌ {A = ℕ} 0 1 = cc in absurd (omega arith)
  told kind.Number ch value start end ws p h = go (decimal_of value) refl h
    where
      go : (r : Option ℕ) → decimal_of value ≡ r → is_good (number_words r) ≡ true → Told kind.Number ch value (number_words r) ws
      go (Some v) e h = (number_text value e, refl)
      go None e h = let z : ◌≡◌ {A = ℕ} 0 1 = cc in absurd (omega arith)
  told kind.Maybe ch value start end ws p h = told_maybe ch value ws h
  told kind.Pair ch value start end ws p h = told_pair ch value ws h
  told kind.Bytes ch value start end ws p h = go (is_word (ascii "-") value) refl (eqb (length value) 0) refl (is_hexadecimal value) refl h
    where
      go : (t : Bool) → is_word (ascii "-") value ≡ t → (u : Bool) → eqb (length value) 0 ≡ u → (v : Bool) → is_hexadecimal value ≡ v
          → is_good (pick t (Some (words.Two start start)) (pick u None (pick v (Some (words.Two start end)) None))) ≡ true
          → Told kind.Bytes ch value (pick t (Some (words.Two start start)) (pick u None (pick v (Some (words.Two start end)) None))) ws
      go true e u f v g h = (none, refl)
        where
          none : bytes_text (bytes_of (part line start start)) ≡ value
          none = let z : start - start ≡ 0 = omega arith in rw z (no_bytes ∙ sym (word_text (ascii "-") value e))
      go false e true f v g h = let z : ◌≡◌ {A = ℕ} 0 1 = cc in absurd (omega arith)
      go false e false f true g h = (rw p (some_bytes (bytes_of value) value (text_of_bytes value g) (eqb-false _ _ f)), refl)
      go false e false f false g h = let z : ◌≡◌ {A = ℕ} 0 1 = cc in absurd (omega arith)
  told kind.Choice ch value start end ws p h =
      let q = found 0 (split ch) value h in
      let z : 0 + q.0 ≡ q.0 = omega arith in
      rw (q.1, z) (q.2, refl)

  -- ---- a line

  pub parted : (w : Option Words) (r : Reading (List ℕ)) (ws : List ℕ) → followed w r ≡ Good ws
      → (is_good w ≡ true) × (vs : List ℕ) × (r ≡ Good vs) × (listed w ++ vs ≡ ws)
  parted w r ws h = go (is_good w) refl r h
    where
      go : (t : Bool) → is_good w ≡ t → (r : Reading (List ℕ)) → pick t (prepend (listed w) r) Bad ≡ Good ws
          → (is_good w ≡ true) × (vs : List ℕ) × (r ≡ Good vs) × (listed w ++ vs ≡ ws)
      go true e (Good vs) h = (e, vs, refl, cc)
      go true e Bad h = let z : ◌≡◌ {A = ℕ} 0 1 = cc in absurd (omega arith)
      go false e r h = let z : ◌≡◌ {A = ℕ} 0 1 = cc in absurd (omega arith)

  read_text : (within : Bool) (form : List ℕ) (at : ℕ) (s ws : List ℕ) → drop at line ≡ s → read_from within form at s ≡ Good ws
      → text_from within form (values_from get within form ws) ≡ s
  unfolding read_from text_from values_from
  read_text within [] at [] ws d h = refl
  read_text within [] at (a ∷ s) ws d h = let z : ◌≡◌ {A = ℕ} 0 1 = cc in absurd (omega arith)
  read_text true (b ∷ form) at s ws d h = read_text (no (eqb b 41)) form at s ws d h
  read_text false (b ∷ form) at s ws d h =
      go (is_literal (kind_of b)) refl (λ t e. read_text false form (at + 1) t ws e) (λ n t vs e. read_text (opens (kind_of b)) form n t vs e) h
    where
      byte : (s : List ℕ) → drop at line ≡ s
          → ((t : List ℕ) → drop (at + 1) line ≡ t → read_from false form (at + 1) t ≡ Good ws → text_from false form (values_from get false form ws) ≡ t)
          → pick (begins (b ∷ []) s) (read_from false form (at + 1) (drop 1 s)) Bad ≡ Good ws
          → b ∷ text_from false form (values_from get false form ws) ≡ s
      byte s d f = by_test (begins (b ∷ []) s) refl
        where
          by_test : (t : Bool) → begins (b ∷ []) s ≡ t → pick t (read_from false form (at + 1) (drop 1 s)) Bad ≡ Good ws
              → b ∷ text_from false form (values_from get false form ws) ≡ s
          by_test true e h = ap (λ (t : List ℕ). b ∷ t) (f (drop 1 s) (sym (drop-drop 1 at line) ∙ rw d) h) ∙ sym (begins_split (b ∷ []) s e)
          by_test false e h = let z : ◌≡◌ {A = ℕ} 0 1 = cc in absurd (omega arith)

      go : (t : Bool) → is_literal (kind_of b) ≡ t
          → ((t : List ℕ) → drop (at + 1) line ≡ t → read_from false form (at + 1) t ≡ Good ws → text_from false form (values_from get false form ws) ≡ t)
          → ((n : ℕ) (t vs : List ℕ) → drop n line ≡ t → read_from (opens (kind_of b)) form n t ≡ Good vs
          → text_from (opens (kind_of b)) form (values_from get (opens (kind_of b)) form vs) ≡ t)
          → pick t (pick (begins (b ∷ []) s) (read_from false form (at + 1) (drop 1 s)) Bad)
          (followed (words_of (kind_of b) (choice (kind_of b) form) (take (length_before 32 s) s) at (at + length_before 32 s))
          (read_from (opens (kind_of b)) form (at + length_before 32 s) (drop (length_before 32 s) s))) ≡ Good ws
          → text_from false (b ∷ form) (values_from get false (b ∷ form) ws) ≡ s
      go true e f g h = rw e (byte s d f h)
      go false e f g h =
          let n = length_before 32 s in
          let w = words_of (kind_of b) (choice (kind_of b) form) (take (length_before 32 s) s) at (at + length_before 32 s) in
          let q = parted w (read_from (opens (kind_of b)) form (at + length_before 32 s) (drop (length_before 32 s) s)) ws h in
          let z : at + length_before 32 s - at ≡ length_before 32 s = omega arith in
          let p : part line at (at + length_before 32 s) ≡ take (length_before 32 s) s = rw (z, d) in
          let t = told (kind_of b) (choice (kind_of b) form) (take (length_before 32 s) s) at (at + length_before 32 s) q.1 p q.0 in
          let r = g (at + length_before 32 s) (drop (length_before 32 s) s) q.1 (sym (drop-drop (length_before 32 s) at line) ∙ rw d) q.2 in
          rw (e, ← q.3, t.1, t.0, r) (take-append-drop (length_before 32 s) s)

pub only : (form line : List ℕ) (vs : List Value) → values_of form line ≡ Good vs → line ≡ text form vs
unfolding values_of read_form text
only form line vs = go (read_from false form 0 line) refl
  where
    go : (r : Reading (List ℕ)) → read_from false form 0 line ≡ r → valued form line r ≡ Good vs → line ≡ text_from false form vs
    go (Good ws) e h = let z : values_from (get line) false form ws ≡ vs = cc in sym (read_text line false form 0 line ws refl e) ∙ rw z
    go Bad e h = let z : ◌≡◌ {A = ℕ} 0 1 = cc in absurd (omega arith)
