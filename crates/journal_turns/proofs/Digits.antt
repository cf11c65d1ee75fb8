-- The bytes of hexadecimal digits at a place of a line, read into a buffer. Assumes nothing.
use mathlib.Core.Path.{◌≡◌, refl, sym, ◌∙◌}
use mathlib.Core.List.{List, [], ◌∷◌}
use mathlib.Core.Bool.{Bool, true, false}
use Prim.Native.Nat.{ℕ, suc, ◌+◌, ◌*◌, ◌-◌, ◌<◌, ◌≤◌, min}
use native.Mathlib.Omega.{arith}
use lib.Dec.{ltb}
use lib.ListN.{length, take, drop, length-take, length-drop}
use lib.Seq.{take_all}
use borrow.Author.Tests.{ltb-true, ltb-false}
use Rattle.prelude.specs.Choice.{pick}
use Rattle.text.specs.Hexadecimal.{digit_value, is_pair, bytes_of}
use Rattle.text.specs.Printed.{printed, behind}
use Rattle.text.proofs.Printing.{parts, laid_none, behind_within, fits}
use Rattle.forms.specs.Texts.{part}

-- two digits make a byte
bytes_half : (s : List ℕ) → 2 * length (bytes_of s) ≤ length s
unfolding bytes_of
bytes_half [] = omega arith
bytes_half (a ∷ []) = omega arith
bytes_half (a ∷ b ∷ s) = go (is_pair a b) (bytes_half s)
  where
    go : (t : Bool) → 2 * length (bytes_of s) ≤ length s → 2 * length (pick t ((digit_value a * 16 + digit_value b) ∷ bytes_of s) []) ≤ suc (suc (length s))
    go true h = omega arith
    go false h = omega arith

-- a place that ends past the line ends with it
module _ (line : List ℕ) (start end : ℕ) {e : ℕ} (m : e ≡ min end (length line)) where
  clipped : part line start e ≡ part line start end
  clipped = go (ltb (length line) end) refl
    where
      go : (t : Bool) → ltb (length line) end ≡ t → part line start e ≡ part line start end
      go true k =
          let l : length line < end = ltb-true _ _ k in
          let z : e ≡ length line = omega arith in
          take_all (e - start) (drop start line) (omega (arith, length-drop start line))
          ∙ sym (take_all (end - start) (drop start line) (omega (arith, length-drop start line)))
      go false k =
          let l : end ≤ length line = ltb-false _ _ k in
          let z : e ≡ end = omega arith in
          rw z

  emptied : e ≤ start → part line start end ≡ []
  emptied h = let z : e - start ≡ 0 = omega arith in sym clipped ∙ rw z

  pub read_none : (o : List ℕ) → e ≤ start → (o ≡ printed o 0 (bytes_of (part line start end))) × (0 ≡ behind o 0 (bytes_of (part line start end)))
  unfolding bytes_of
  read_none o h = rw (emptied h) (parts (laid_none o 0))

  pub read_some : (o : List ℕ) {x : List ℕ} {q : ℕ} → (x ≡ printed o 0 (bytes_of (part line start e))) × (q ≡ behind o 0 (bytes_of (part line start e)))
      → (x ≡ printed o 0 (bytes_of (part line start end))) × (q ≡ behind o 0 (bytes_of (part line start end)))
  read_some o f = rw clipped at f

-- they stand whole in a buffer of half the line's length
module _ (line o : List ℕ) (start end : ℕ) {n : ℕ} (place : n ≡ behind o 0 (bytes_of (part line start end))) where
  pub within : n ≤ length o
  within = rw place (behind_within o 0 (bytes_of (part line start end)) (omega arith))

  pub whole : {x : List ℕ} → x ≡ printed o 0 (bytes_of (part line start end)) → length line < 2 * length o → take n x ≡ bytes_of (part line start end)
  whole bytes h =
      let fit : length (bytes_of (part line start end)) ≤ length o =
      omega (arith, bytes_half (part line start end), length-take (end - start) (drop start line), length-drop start line)
      in
      rw (bytes, place) (fits o (bytes_of (part line start end)) fit)
