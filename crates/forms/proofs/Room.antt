-- How long the text of a form's values is at most. Assumes nothing.
use mathlib.Core.Path.{◌≡◌, refl, sym, ap, subst}
use mathlib.Core.List.{List, [], ◌∷◌, ◌++◌}
use mathlib.Core.Bool.{Bool, true, false}
use Prim.Native.Nat.{ℕ, zero, suc, ◌+◌, ◌*◌, ◌/◌, ◌%◌, ◌<◌, ◌≤◌}
use native.Mathlib.Omega.{arith}
use lib.Dec.{eqb, ltb}
use lib.ListN.{length, drop, get_or, length-append}
use borrow.Author.Tests.{ltb-true, ltb-false}
use Rattle.prelude.specs.Choice.{pick, no}
use Rattle.prelude.specs.Numbers.{max_u64}
use Rattle.text.specs.Words.{ascii}
use Rattle.text.specs.Decimal.{decimal}
use Rattle.text.specs.Hexadecimal.{bytes_text}
use Rattle.text.proofs.Printing.{one, more, hexadecimal_length}
use Rattle.forms.specs.Forms.{kind_of, is_literal, opens, choice, split}
use Rattle.forms.specs.Texts.{Value, number, some, absent, pair, unpaired, bytes, word, value_text, first_text, text_from, text, kind_of_value, Either}
use Rattle.forms.specs.Room.{number_room, longest, value_room, room_from, room_of, FirstIs, KindsFrom, Kinds, AtMost, AllAtMost}
use Rattle.forms.specs.declared.Kind.{Kind}
use Rattle.forms.specs.declared.Kind.TheVariants as kind

-- ---- a value

abbrev tens : ℕ → ℕ
tens zero = 1
tens (suc k) = tens k * 10

digits_most : (k v : ℕ) → v < tens (suc k) → length (decimal v) ≤ suc k
digits_most zero v h = rw (one v (omega arith)) (omega arith)
digits_most (suc k) v h = go (ltb v 10) refl (λ l. digits_most k (v / 10) (omega arith))
  where
    go : (t : Bool) → ltb v 10 ≡ t → (10 ≤ v → length (decimal (v / 10)) ≤ suc k) → length (decimal v) ≤ suc (suc k)
    go true e f = rw (one v (ltb-true _ _ e)) (omega arith)
    go false e f =
        let l : 10 ≤ v = ltb-false _ _ e in
        rw (more v l) (omega (arith, length-append (decimal (v / 10)) ((48 + v % 10) ∷ []), f l))

number_most : (v : ℕ) → v ≤ max_u64 → length (decimal v) ≤ number_room
number_most v h = digits_most 19 v (omega arith)

bytes_most : (most : ℕ) (s : List ℕ) → length s ≤ most → length (bytes_text s) ≤ 2 * most + 1
bytes_most most [] h = omega arith
bytes_most most (b ∷ s) h = omega (arith, hexadecimal_length (b ∷ s))

word_most : (ws : List (List ℕ)) (k : ℕ) → length (get_or ws k []) ≤ longest ws
unfolding longest
word_most [] k = omega arith
word_most (w ∷ ws) k = go (ltb (length w) (longest ws)) refl (λ i. word_most ws i) k
  where
    go : (t : Bool) → ltb (length w) (longest ws) ≡ t → ((i : ℕ) → length (get_or ws i []) ≤ longest ws) → (k : ℕ)
        → length (get_or (w ∷ ws) k []) ≤ pick t (longest ws) (length w)
    go true e f zero = let l : length w < longest ws = ltb-true _ _ e in omega arith
    go true e f (suc k) = f k
    go false e f zero = omega arith
    go false e f (suc k) = let l : longest ws ≤ length w = ltb-false _ _ e in omega (arith, f k)

value_most : (most : ℕ) (ch : List ℕ) (v : Value) → AtMost most v → length (value_text ch v) ≤ value_room most (kind_of_value v) ch
unfolding value_text kind_of_value
value_most most ch (number v) a = number_most v a
value_most most ch (some v) a = number_most v a
value_most most ch absent a = omega arith
value_most most ch (pair x y) a =
    omega (arith, length-append (decimal x) (ascii ":" ++ decimal y), number_most x a.0, number_most y a.1)
value_most most ch unpaired a = omega arith
value_most most ch (bytes s) a = bytes_most most s a
value_most most ch (word k) a = word_most (split ch) k

-- ---- a line

shut : (k : Kind) → is_literal k ≡ true → (opens k ≡ false) × ((most : ℕ) (ch : List ℕ) → value_room most k ch ≡ 1)
shut kind.Literal e = (refl, λ most ch. refl)
shut kind.Number e = let z : ◌≡◌ {A = ℕ} 0 1 = cc in absurd (omega arith)
shut kind.Maybe e = let z : ◌≡◌ {A = ℕ} 0 1 = cc in absurd (omega arith)
shut kind.Pair e = let z : ◌≡◌ {A = ℕ} 0 1 = cc in absurd (omega arith)
shut kind.Bytes e = let z : ◌≡◌ {A = ℕ} 0 1 = cc in absurd (omega arith)
shut kind.Choice e = let z : ◌≡◌ {A = ℕ} 0 1 = cc in absurd (omega arith)

module _ (most : ℕ) where
  first_most : (k : Kind) (ch : List ℕ) (vs : List Value) → FirstIs k vs → AllAtMost most vs
      → (length (first_text ch vs) ≤ value_room most k ch) × AllAtMost most (drop 1 vs)
  unfolding AllAtMost
  first_most k ch [] h a = absurd h
  first_most k ch (v ∷ vs) h a = (rw (← h) (value_most most ch v a.0), a.1)

  from_most : (within : Bool) (form : List ℕ) (vs : List Value) → KindsFrom within form vs → AllAtMost most vs
      → length (text_from within form vs) ≤ room_from most within form
  unfolding text_from KindsFrom room_from
  from_most within [] vs h a = omega arith
  from_most true (b ∷ form) vs h a = from_most (no (eqb b 41)) form vs h a
  from_most false (b ∷ form) vs h a = go (is_literal (kind_of b)) refl h (λ us. from_most (opens (kind_of b)) form us)
    where
      go : (t : Bool) → is_literal (kind_of b) ≡ t
          → Either t (KindsFrom false form vs) (FirstIs (kind_of b) vs × KindsFrom (opens (kind_of b)) form (drop 1 vs))
          → ((us : List Value) → KindsFrom (opens (kind_of b)) form us → AllAtMost most us → length (text_from (opens (kind_of b)) form us) ≤ room_from most (opens (kind_of b)) form)
          → length (pick t (b ∷ text_from false form vs) (first_text (choice (kind_of b) form) vs ++ text_from (opens (kind_of b)) form (drop 1 vs)))
          ≤ value_room most (kind_of b) (choice (kind_of b) form) + room_from most (opens (kind_of b)) form
      go true e h f =
          let o = shut (kind_of b) e in
          let i : KindsFrom (opens (kind_of b)) form vs = subst (λ (t : Bool). KindsFrom t form vs) (sym o.0) h in
          let l : length (text_from false form vs) ≡ length (text_from (opens (kind_of b)) form vs) = ap (λ (t : Bool). length (text_from t form vs)) (sym o.0) in
          omega (arith, o.1 most (choice (kind_of b) form), l, f vs i a)
      go false e h f =
          let p = first_most (kind_of b) (choice (kind_of b) form) vs h.0 a in
          omega (arith, length-append (first_text (choice (kind_of b) form) vs) (text_from (opens (kind_of b)) form (drop 1 vs)), p.0, f (drop 1 vs) h.1 p.1)

pub text_short : (most : ℕ) (form : List ℕ) (vs : List Value) → Kinds form vs → AllAtMost most vs → length (text form vs) ≤ room_of most form
unfolding text
text_short most form vs h a = from_most most false form vs h a
