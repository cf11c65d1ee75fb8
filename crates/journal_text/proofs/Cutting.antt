-- An input's lines, one after the other. Assumes nothing.
use mathlib.Core.Path.{◌≡◌, refl, ap, ◌∙◌}
use mathlib.Core.List.{List, [], ◌∷◌, ◌++◌}
use mathlib.Core.Bool.{Bool, true, false}
use Prim.Native.Nat.{ℕ, zero, suc, ◌+◌, ◌-◌, ◌<◌, ◌≤◌}
use native.Mathlib.Numerals.{add-one}
use native.Mathlib.Omega.{arith}
use lib.Dec.{eqb, ltb}
use lib.ListN.{length, take, drop, length-append, length-drop, length-take, drop_of_length-le}
use lib.Seq.{take-append_seam, drop-append-add, take_all}
use borrow.Author.Tests.{lt-ltb, le-ltb, eq-eqb, ne_eqb}
use Rattle.std.specs.Prelude.{None}
use Rattle.prelude.specs.Choice.{pick}
use Rattle.text.specs.Words.{length_before}
use Rattle.lines.proofs.Feeds.{joined}
use Rattle.lines.specs.Lines.{longest}
use Rattle.journal_calls.specs.Calls.{Journal}
use Rattle.journal_turns.specs.Turns.{read, turn_of, line_turn}
use Rattle.journal_text.specs.Texts.{first_of}
use Rattle.journal_text.specs.Journals.{cut, lines_of, LineByLine, LongLinesAreOne}

-- more lines than bytes change nothing
enough : (n m : ℕ) (s : List ℕ) → length s ≤ n → length s ≤ m → cut n s ≡ cut m s
unfolding cut
enough zero zero s h k = refl
enough zero (suc m) s h k = rw (eq-eqb (length s) 0 (omega arith))
enough (suc n) zero s h k = rw (eq-eqb (length s) 0 (omega arith))
enough (suc n) (suc m) s h k = go (eqb (length s) 0) refl (enough n m (drop (suc (length_before 10 s)) s))
  where
    first : List ℕ × Bool
    first = (take (length_before 10 s) s, ltb (length_before 10 s) (length s))

    others : List ℕ
    others = drop (suc (length_before 10 s)) s

    go : (t : Bool) → eqb (length s) 0 ≡ t → (length others ≤ n → length others ≤ m → cut n others ≡ cut m others)
        → pick t [] (first ∷ cut n others) ≡ pick t [] (first ∷ cut m others)
    go true e f = refl
    go false e f =
        let l : length others ≡ length s - suc (length_before 10 s) = length-drop (suc (length_before 10 s)) s in
        ap (λ (r : List (List ℕ × Bool)). first ∷ r) (f (omega arith) (omega arith))

-- up to a line feed
before_feed : (text rest : List ℕ) → length_before 10 text ≡ length text → length_before 10 (text ++ (10 ∷ rest)) ≡ length text
unfolding length_before
before_feed text rest p = joined text (10 ∷ rest) p ∙ omega arith

pub lines : LineByLine
unfolding cut
lines = record { ended = ended; last = last }
  where
    ended : (text rest : List ℕ) → length_before 10 text ≡ length text → lines_of (text ++ (10 ∷ rest)) ≡ (text, true) ∷ lines_of rest
    ended text rest p =
        let l : length (text ++ (10 ∷ rest)) ≡ suc (length text + length rest) = length-append text (10 ∷ rest) ∙ omega arith in
        let b : length_before 10 (text ++ (10 ∷ rest)) ≡ length text = before_feed text rest p in
        let d : drop (suc (length text)) (text ++ (10 ∷ rest)) ≡ rest = rw (← add-one (length text)) (drop-append-add text (10 ∷ rest) 1) in
        ap (λ (n : ℕ). cut n (text ++ (10 ∷ rest))) l
        ∙ rw (ne_eqb (length (text ++ (10 ∷ rest))) 0 (λ e. omega arith), b, take-append_seam text (10 ∷ rest), lt-ltb (length text) (length (text ++ (10 ∷ rest))) (omega arith), d)
        (ap (λ (r : List (List ℕ × Bool)). (text, true) ∷ r) (enough (length text + length rest) (length rest) rest (omega arith) (omega arith)))

    last : (text : List ℕ) → length_before 10 text ≡ length text → 0 < length text → lines_of text ≡ (text, false) ∷ []
    last text p h = go (length text) refl
      where
        go : (n : ℕ) → length text ≡ n → cut n text ≡ (text, false) ∷ []
        go zero e = absurd (omega arith)
        go (suc n) e =
            rw (ne_eqb (length text) 0 (λ z. omega arith), p, take_all (length text) text (omega arith), le-ltb (length text) (length text) (omega arith), drop_of_length-le text {i = suc (length text)} (omega arith))
            (ap (λ (r : List (List ℕ × Bool)). (text, false) ∷ r) (enough n 0 [] (omega arith) (omega arith)))

-- a line that is too long has no known form
unknown : (line : List ℕ) (ended : Bool) → longest ≤ length line → read line ended ≡ None
unfolding read
unknown line true h = rw (le-ltb (length line) longest h)
unknown line false h = refl

pub long_same : (j : Journal) (reply a b : List ℕ) (ended : Bool) → longest ≤ length a → longest ≤ length b
    → line_turn j reply a ended ≡ line_turn j reply b ended
unfolding line_turn turn_of
long_same j reply a b ended h k = rw (unknown a ended h, unknown b ended k)

pub long_first : (a b : List ℕ) (ended : Bool) → longest ≤ length a → longest ≤ length b → first_of a ended ≡ first_of b ended
unfolding first_of
long_first a b true h k = rw (le-ltb (length a) longest h, le-ltb (length b) longest k)
long_first a b false h k = refl

pub long_lines : LongLinesAreOne
long_lines j reply line ended n h k = long_same j reply (take n line) line ended (omega (arith, length-take n line)) h
