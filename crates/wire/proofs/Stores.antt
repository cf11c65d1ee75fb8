-- Bytes stored from a place on, one after the other and one part after the other.
-- Assumes nothing.
use mathlib.Core.Path.{◌≡◌, refl, sym, ap, ◌∙◌}
use mathlib.Core.List.{List, [], ◌∷◌, ◌++◌, append_assoc}
use Prim.Native.Nat.{ℕ, suc, min, ◌+◌, ◌-◌, ◌<◌, ◌≤◌}
use native.Mathlib.Nat.{add-zero}
use native.Mathlib.Omega.{arith}
use lib.ListN.{length, take, drop, set, length-set, length-take, drop_of_length-le, take-append-drop}
use lib.Seq.{sets, sets-eq, set_out, length-sets}
use mathlib.Core.Logic.{⊎_elim}
use Rattle.std.proofs.lemmas.Bool.{cases_lt}
use Rattle.wire.specs.Lists.{entry}

-- nothing is stored past the end
pub sets_out : (o : List ℕ) (p : ℕ) (a : List ℕ) → length o ≤ p → sets o p a ≡ o
sets_out o p [] h = refl
sets_out o p (x ∷ a) h =
    let l : length (set o p x) ≤ suc p = simp length-set (omega arith) in
    sets_out (set o p x) (suc p) a l ∙ set_out o p x h

pub sets_append : (o : List ℕ) (p : ℕ) (a b : List ℕ) → sets o p (a ++ b) ≡ sets (sets o p a) (p + length a) b
sets_append o p [] b = rw (add-zero p)
sets_append o p (x ∷ a) b = let e : suc p + length a ≡ p + suc (length a) = omega arith in sets_append (set o p x) (suc p) a b ∙ rw e

-- from the front on: the new bytes, then the buffer's other bytes
pub sets_front : (o new : List ℕ) → length new ≤ length o → sets o 0 new ≡ new ++ drop (length new) o
sets_front o new h = let e : 0 + length new ≡ length new = omega arith in let l : 0 + length new ≤ length o = omega arith in sets-eq new o 0 l ∙ rw e

-- two parts, one behind the other
pub parts_stored : (o : List ℕ) (at : ℕ) (a b : List ℕ) {p : ℕ} {x y : List ℕ} → p ≡ at + length a → x ≡ sets o at a → y ≡ sets x p b → y ≡ sets o at (a ++ b)
parts_stored o at a b c i j = j ∙ rw (i, c) (sym (sets_append o at a b))

-- as many bytes as there is room for; past them nothing is stored
module _ (o a : List ℕ) (p : ℕ) {n : ℕ} (h : p ≤ length o) (e : n ≡ min (length a) (length o - p)) where
  past : sets (sets o p (take n a)) (p + n) (drop n a) ≡ sets o p (take n a)
  past =
      ⊎_elim (λ (k : n < length a). sets_out (sets o p (take n a)) (p + n) (drop n a) (omega (arith, length-sets o p (take n a))))
      (λ (k : length a ≤ n). ap (sets (sets o p (take n a)) (p + n)) (drop_of_length-le a k))
      (cases_lt n (length a))

  pub sets_within : take p o ++ (take n a ++ drop (p + n) o) ≡ sets o p a
  sets_within =
      let l : length (take n a) ≡ n = simp length-take (omega (arith)) in
      let k : p + length (take n a) ≤ length o = omega (arith) in
      let m : sets o p (take n a) ≡ take p o ++ (take n a ++ drop (p + n) o) = sets-eq (take n a) o p k ∙ ap (λ (i : ℕ). (take p o ++ take n a) ++ drop (p + i) o) l ∙ append_assoc (take p o) (take n a) (drop (p + n) o) in
      sym m ∙ sym past ∙ ap (λ (i : ℕ). sets (sets o p (take n a)) (p + i) (drop n a)) (sym l)
      ∙ sym (sets_append o p (take n a) (drop n a)) ∙ ap (sets o p) (take-append-drop n a)

-- ---- an entry

module _ (o a : List ℕ) (at : ℕ) where
  pub no_entry : length o ≤ at → o ≡ sets o at (entry a)
  no_entry h = sym (sets_out o at (entry a) h)
