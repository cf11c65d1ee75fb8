-- A line that is read gives as many words as its form has, and they stand first where they are stored. Assumes nothing.
use mathlib.Core.Path.{◌≡◌, refl, sym, ap, ◌∙◌}
use mathlib.Core.List.{List, [], ◌∷◌, ◌++◌}
use mathlib.Core.Bool.{Bool, true, false}
use Prim.Native.Nat.{ℕ, suc, ◌+◌, ◌≤◌}
use borrow.Author.Tests.{eqb-true}
use Rattle.text.proofs.Decimal.{begins_split}
use Rattle.std.specs.Prelude.{None, Option, Some, ℕ}
use native.Mathlib.Omega.{arith}
use lib.Dec.{eqb, leb}
use lib.ListN.{length, take, drop, length-append}
use Rattle.prelude.specs.Choice.{pick, no}
use Rattle.text.specs.Words.{ascii, begins, is_word, length_before}
use Rattle.text.specs.Decimal.{decimal_of}
use Rattle.text.specs.Hexadecimal.{is_hexadecimal}
use Rattle.text.specs.Printed.{printed, behind}
use Rattle.text.proofs.Printing.{fits, fits_place}
use Rattle.forms.specs.Forms.{kind_of, is_literal, opens, choice, split, words_of, number_words, some_words, maybe_words, both_words, pair_words, listed, is_good, Reading, Good, Bad, followed, read_from, read_form, is_read, words_from, Stored}
use Rattle.forms.specs.Texts.{width, count_from, spaces, spaces_from}
use Rattle.forms.specs.declared.Kind.{Kind}
use Rattle.forms.specs.declared.Kind.TheVariants as kind
use Rattle.forms.specs.declared.Words.TheVariants as words
use Rattle.forms.proofs.Only.{found, parted}

wide_maybe : (t : Bool) (r : Option ℕ) → is_good (pick t (Some (words.Two 0 0)) (some_words r)) ≡ true → length (listed (pick t (Some (words.Two 0 0)) (some_words r))) ≡ 2
wide_maybe true r h = refl
wide_maybe false (Some v) h = refl
wide_maybe false None h = let z : ◌≡◌ {A = ℕ} 0 1 = cc in absurd (omega arith)

wide_pair : (t u : Bool) (x y : Option ℕ) → is_good (pick t (Some (words.Three 0 0 0)) (pick u None (both_words x y))) ≡ true
    → length (listed (pick t (Some (words.Three 0 0 0)) (pick u None (both_words x y)))) ≡ 3
wide_pair true u x y h = refl
wide_pair false true x y h = let z : ◌≡◌ {A = ℕ} 0 1 = cc in absurd (omega arith)
wide_pair false false (Some a) (Some b) h = refl
wide_pair false false (Some a) None h = let z : ◌≡◌ {A = ℕ} 0 1 = cc in absurd (omega arith)
wide_pair false false None y h = let z : ◌≡◌ {A = ℕ} 0 1 = cc in absurd (omega arith)

wide_number : (r : Option ℕ) → is_good (number_words r) ≡ true → length (listed (number_words r)) ≡ 1
wide_number (Some v) h = refl
wide_number None h = let z : ◌≡◌ {A = ℕ} 0 1 = cc in absurd (omega arith)

wide_bytes : (start end : ℕ) (t u v : Bool) → is_good (pick t (Some (words.Two start start)) (pick u None (pick v (Some (words.Two start end)) None))) ≡ true
    → length (listed (pick t (Some (words.Two start start)) (pick u None (pick v (Some (words.Two start end)) None)))) ≡ 2
wide_bytes start end true u v h = refl
wide_bytes start end false true v h = let z : ◌≡◌ {A = ℕ} 0 1 = cc in absurd (omega arith)
wide_bytes start end false false true h = refl
wide_bytes start end false false false h = let z : ◌≡◌ {A = ℕ} 0 1 = cc in absurd (omega arith)

wide : (k : Kind) (ch value : List ℕ) (start end : ℕ) → is_good (words_of k ch value start end) ≡ true → length (listed (words_of k ch value start end)) ≡ width k
unfolding words_of maybe_words pair_words
wide kind.Literal ch value start end h = let z : ◌≡◌ {A = ℕ} 0 1 = cc in absurd (omega arith)
wide kind.Number ch value start end h = wide_number (decimal_of value) h
wide kind.Maybe ch value start end h = wide_maybe (is_word (ascii "none") value) (decimal_of value) h
wide kind.Pair ch value start end h = wide_pair (is_word (ascii "none") value) (leb (length value) (length_before 58 value)) (decimal_of (take (length_before 58 value) value)) (decimal_of (drop (length_before 58 value + 1) value)) h
wide kind.Bytes ch value start end h = wide_bytes start end (is_word (ascii "-") value) (eqb (length value) 0) (is_hexadecimal value) h
wide kind.Choice ch value start end h = let q = found 0 (split ch) value h in rw q.1

none_wide : (k : Kind) → is_literal k ≡ true → (width k ≡ 0) × (opens k ≡ false)
none_wide kind.Literal e = (refl, refl)
none_wide kind.Number e = let z : ◌≡◌ {A = ℕ} 0 1 = cc in absurd (omega arith)
none_wide kind.Maybe e = let z : ◌≡◌ {A = ℕ} 0 1 = cc in absurd (omega arith)
none_wide kind.Pair e = let z : ◌≡◌ {A = ℕ} 0 1 = cc in absurd (omega arith)
none_wide kind.Bytes e = let z : ◌≡◌ {A = ℕ} 0 1 = cc in absurd (omega arith)
none_wide kind.Choice e = let z : ◌≡◌ {A = ℕ} 0 1 = cc in absurd (omega arith)

pub counted : (within : Bool) (form : List ℕ) (at : ℕ) (s ws : List ℕ) → read_from within form at s ≡ Good ws → length ws ≡ count_from within form
unfolding read_from count_from
counted within [] at [] ws h = let z : [] ≡ ws = cc in rw (sym z)
counted within [] at (a ∷ s) ws h = let z : ◌≡◌ {A = ℕ} 0 1 = cc in absurd (omega arith)
counted true (b ∷ form) at s ws h = counted (no (eqb b 41)) form at s ws h
counted false (b ∷ form) at s ws h =
    go (is_literal (kind_of b)) refl (λ t. counted false form (at + 1) t ws) (λ n t vs. counted (opens (kind_of b)) form n t vs) h
  where
    go : (t : Bool) → is_literal (kind_of b) ≡ t → ((t : List ℕ) → read_from false form (at + 1) t ≡ Good ws → length ws ≡ count_from false form)
        → ((n : ℕ) (t vs : List ℕ) → read_from (opens (kind_of b)) form n t ≡ Good vs → length vs ≡ count_from (opens (kind_of b)) form)
        → pick t (pick (begins (b ∷ []) s) (read_from false form (at + 1) (drop 1 s)) Bad)
        (followed (words_of (kind_of b) (choice (kind_of b) form) (take (length_before 32 s) s) at (at + length_before 32 s))
        (read_from (opens (kind_of b)) form (at + length_before 32 s) (drop (length_before 32 s) s))) ≡ Good ws
        → length ws ≡ width (kind_of b) + count_from (opens (kind_of b)) form
    go true e f g h = let o = none_wide (kind_of b) e in rw (o.0, o.1) (byte (begins (b ∷ []) s) h)
      where
        byte : (t : Bool) → pick t (read_from false form (at + 1) (drop 1 s)) Bad ≡ Good ws → length ws ≡ 0 + count_from false form
        byte true h = omega (arith, f (drop 1 s) h)
        byte false h = let z : ◌≡◌ {A = ℕ} 0 1 = cc in absurd (omega arith)
    go false e f g h =
        let w = words_of (kind_of b) (choice (kind_of b) form) (take (length_before 32 s) s) at (at + length_before 32 s) in
        let q = parted s w (read_from (opens (kind_of b)) form (at + length_before 32 s) (drop (length_before 32 s) s)) ws h in
        let l : length ws ≡ length (listed w ++ q.1) = ap length (sym q.3) in
        omega (arith, l, length-append (listed w) q.1, wide (kind_of b) (choice (kind_of b) form) (take (length_before 32 s) s) at (at + length_before 32 s) q.0, g (at + length_before 32 s) (drop (length_before 32 s) s) q.1 q.2)

-- a line that is read has its words stored
pub all_words : (within : Bool) (form : List ℕ) (at : ℕ) (s ws : List ℕ) → read_from within form at s ≡ Good ws → words_from within form at s ≡ ws
unfolding read_from words_from
all_words within [] at [] ws h = cc
all_words within [] at (a ∷ s) ws h = let z : ◌≡◌ {A = ℕ} 0 1 = cc in absurd (omega arith)
all_words true (b ∷ form) at s ws h = all_words (no (eqb b 41)) form at s ws h
all_words false (b ∷ form) at s ws h =
    go (is_literal (kind_of b)) (λ t. all_words false form (at + 1) t ws) (λ n t vs. all_words (opens (kind_of b)) form n t vs) h
  where
    go : (t : Bool) → ((t : List ℕ) → read_from false form (at + 1) t ≡ Good ws → words_from false form (at + 1) t ≡ ws)
        → ((n : ℕ) (t vs : List ℕ) → read_from (opens (kind_of b)) form n t ≡ Good vs → words_from (opens (kind_of b)) form n t ≡ vs)
        → pick t (pick (begins (b ∷ []) s) (read_from false form (at + 1) (drop 1 s)) Bad)
        (followed (words_of (kind_of b) (choice (kind_of b) form) (take (length_before 32 s) s) at (at + length_before 32 s))
        (read_from (opens (kind_of b)) form (at + length_before 32 s) (drop (length_before 32 s) s))) ≡ Good ws
        → pick t (pick (begins (b ∷ []) s) (words_from false form (at + 1) (drop 1 s)) [])
        (listed (words_of (kind_of b) (choice (kind_of b) form) (take (length_before 32 s) s) at (at + length_before 32 s))
        ++ pick (is_good (words_of (kind_of b) (choice (kind_of b) form) (take (length_before 32 s) s) at (at + length_before 32 s)))
        (words_from (opens (kind_of b)) form (at + length_before 32 s) (drop (length_before 32 s) s)) []) ≡ ws
    go true f g h = byte (begins (b ∷ []) s) h
      where
        byte : (t : Bool) → pick t (read_from false form (at + 1) (drop 1 s)) Bad ≡ Good ws → pick t (words_from false form (at + 1) (drop 1 s)) [] ≡ ws
        byte true h = f (drop 1 s) h
        byte false h = let z : ◌≡◌ {A = ℕ} 0 1 = cc in absurd (omega arith)
    go false f g h =
        let w = words_of (kind_of b) (choice (kind_of b) form) (take (length_before 32 s) s) at (at + length_before 32 s) in
        let q = parted s w (read_from (opens (kind_of b)) form (at + length_before 32 s) (drop (length_before 32 s) s)) ws h in
        rw (q.0, g (at + length_before 32 s) (drop (length_before 32 s) s) q.1 q.2) q.3

-- ---- what a reader's contract says, as one fact

pub is_bad : (r : Reading (List ℕ)) → false ≡ is_read r → r ≡ Bad
is_bad (Good ws) e = let z : ◌≡◌ {A = ℕ} 0 1 = cc in absurd (omega arith)
is_bad Bad e = refl

pub is_good_lem : (form line before after : List ℕ) (n : ℕ) → true ≡ is_read (read_form form line) → Stored form line before after
    → count_from false form ≡ n → n ≤ length before → read_form form line ≡ Good (take n after)
unfolding read_form
is_good_lem form line before after n e s c l = go (read_from false form 0 line) refl e s
  where
    go : (r : Reading (List ℕ)) → read_from false form 0 line ≡ r → true ≡ is_read r → after ≡ printed before 0 (words_from false form 0 line) → read_from false form 0 line ≡ Good (take n after)
    go (Good ws) f e s =
        let g : after ≡ printed before 0 ws = s ∙ ap (printed before 0) (all_words false form 0 line ws f) in
        let k : length ws ≡ n = counted false form 0 line ws f ∙ c in
        let m : length ws ≤ length before = omega arith in
        let p : behind before 0 ws ≡ n = fits_place before ws m ∙ k in
        let t : ws ≡ take n after = sym (fits before ws m) ∙ rw (p, g) in
        f ∙ ap Good t
    go Bad f e s = let z : ◌≡◌ {A = ℕ} 0 1 = cc in absurd (omega arith)

-- ---- a line has its form's spaces and no other

behind_value : (s : List ℕ) → spaces s ≡ spaces (drop (length_before 32 s) s)
unfolding spaces length_before
behind_value [] = refl
behind_value (b ∷ s) = go (eqb b 32) refl (behind_value s)
  where
    go : (t : Bool) → eqb b 32 ≡ t → spaces s ≡ spaces (drop (length_before 32 s) s)
        → pick t 1 0 + spaces s ≡ spaces (drop (pick t 0 (suc (length_before 32 s))) (b ∷ s))
    go true e h = rw e
    go false e h = omega arith

value_is_no_space : (b : ℕ) → is_literal (kind_of b) ≡ false → eqb b 32 ≡ false
unfolding kind_of
value_is_no_space b h = go (eqb b 32) refl
  where
    go : (t : Bool) → eqb b 32 ≡ t → eqb b 32 ≡ false
    go true e = let z : b ≡ 32 = eqb-true b 32 e in let y = rw z at h in let x : ◌≡◌ {A = ℕ} 0 1 = cc in absurd (omega arith)
    go false e = e

no_spaces : spaces [] ≡ 0
unfolding spaces
no_spaces = refl

one_more : (b : ℕ) (s : List ℕ) → spaces (b ∷ s) ≡ pick (eqb b 32) 1 0 + spaces s
unfolding spaces
one_more b s = refl

pub spaced_alike : (within : Bool) (form : List ℕ) (at : ℕ) (s ws : List ℕ) → read_from within form at s ≡ Good ws → spaces s ≡ spaces_from within form
unfolding read_from spaces_from
spaced_alike within [] at [] ws h = no_spaces
spaced_alike within [] at (a ∷ s) ws h = let z : ◌≡◌ {A = ℕ} 0 1 = cc in absurd (omega arith)
spaced_alike true (b ∷ form) at s ws h = spaced_alike (no (eqb b 41)) form at s ws h
spaced_alike false (b ∷ form) at s ws h =
    go (is_literal (kind_of b)) refl (λ t. spaced_alike false form (at + 1) t ws) (λ n t vs. spaced_alike (opens (kind_of b)) form n t vs) h
  where
    go : (t : Bool) → is_literal (kind_of b) ≡ t → ((t : List ℕ) → read_from false form (at + 1) t ≡ Good ws → spaces t ≡ spaces_from false form)
        → ((n : ℕ) (t vs : List ℕ) → read_from (opens (kind_of b)) form n t ≡ Good vs → spaces t ≡ spaces_from (opens (kind_of b)) form)
        → pick t (pick (begins (b ∷ []) s) (read_from false form (at + 1) (drop 1 s)) Bad)
        (followed (words_of (kind_of b) (choice (kind_of b) form) (take (length_before 32 s) s) at (at + length_before 32 s))
        (read_from (opens (kind_of b)) form (at + length_before 32 s) (drop (length_before 32 s) s))) ≡ Good ws
        → spaces s ≡ pick (eqb b 32) 1 0 + spaces_from (opens (kind_of b)) form
    go true e f g h = byte (begins (b ∷ []) s) refl h
      where
        byte : (t : Bool) → begins (b ∷ []) s ≡ t → pick t (read_from false form (at + 1) (drop 1 s)) Bad ≡ Good ws
            → spaces s ≡ pick (eqb b 32) 1 0 + spaces_from (opens (kind_of b)) form
        byte true d h = rw ((none_wide (kind_of b) e).1, ← f (drop 1 s) h) (ap spaces (begins_split (b ∷ []) s d) ∙ one_more b (drop 1 s))
        byte false d h = let z : ◌≡◌ {A = ℕ} 0 1 = cc in absurd (omega arith)
    go false e f g h =
        let w = words_of (kind_of b) (choice (kind_of b) form) (take (length_before 32 s) s) at (at + length_before 32 s) in
        let q = parted s w (read_from (opens (kind_of b)) form (at + length_before 32 s) (drop (length_before 32 s) s)) ws h in
        rw (value_is_no_space b e) (omega (arith, behind_value s, g (at + length_before 32 s) (drop (length_before 32 s) s) q.1 q.2))

-- so forms with other numbers of spaces have no line in common
pub apart : (form other line ws : List ℕ) → (spaces_from false form ≡ spaces_from false other → ⊥) → read_form other line ≡ Good ws → read_form form line ≡ Bad
unfolding read_form
apart form other line ws n h = go (read_from false form 0 line) refl
  where
    go : (r : Reading (List ℕ)) → read_from false form 0 line ≡ r → read_from false form 0 line ≡ Bad
    go (Good vs) e = absurd (n (sym (spaced_alike false form 0 line vs e) ∙ spaced_alike false other 0 line ws h))
    go Bad e = e
