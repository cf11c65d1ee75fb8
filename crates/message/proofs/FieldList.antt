-- The fields of a list's addresses: how many bytes they have, and what is left to store of them.
-- Assumes nothing.
use mathlib.Core.Path.{◌≡◌, sym, ap, ◌∙◌}
use mathlib.Core.List.{List, [], ◌∷◌, ◌++◌}
use Prim.Native.Nat.{ℕ, ◌+◌, ◌*◌, ◌≤◌}
use native.Mathlib.Numerals.{add-one}
use native.Mathlib.Omega.{arith}
use lib.ListN.{length, set, length-append}
use lib.Seq.{sets}
use Rattle.wire.specs.Varint.{encoded}
use Rattle.wire.specs.Lists.{entries, entry, listed}
use Rattle.wire.proofs.Stores.{sets_append, parts_stored}
use Rattle.wire.proofs.VarintAgain.{groups_short}
use Rattle.wire.proofs.EntryByEntry.{entries_fit}
use Rattle.message.specs.Encoding.{type_field, address_field, address_fields}

pub field_long : (a : List ℕ) → length (address_field a) ≡ 1 + length (encoded (length a)) + length a
field_long a = omega (arith, length-append (encoded (length a)) a)

pub fields_more : (a : List ℕ) (xs : List (List ℕ)) → length (address_fields (a ∷ xs)) ≡ length (address_field a) + length (address_fields xs)
unfolding address_fields
fields_more a xs = length-append (address_field a) (address_fields xs)

-- ---- one field, and the type's

-- by what its parts gave
pub field_stored : (o a : List ℕ) (at : ℕ) {p : ℕ} {x y : List ℕ} → p ≡ at + 1 + length (encoded (length a)) → x ≡ sets (set o at 0x12) (at + 1) (encoded (length a))
    → y ≡ sets x p a → y ≡ sets o at (address_field a)
field_stored o a at c i j =
    parts_stored (set o at 0x12) (at + 1) (encoded (length a)) a c i j ∙ rw (add-one at)

pub type_stored : (o : List ℕ) (at v : ℕ) {x : List ℕ} → x ≡ sets (set o at 0x08) (at + 1) (encoded v) → x ≡ sets o at (type_field v)
type_stored o at v e = e ∙ rw (add-one at)

-- ---- along a list

-- a list's addresses take at most twice as many bytes as fields
fields_fit : (xs : List (List ℕ)) → length (address_fields xs) ≤ 2 * length (listed xs)
unfolding address_fields listed
fields_fit [] = omega arith
fields_fit (a ∷ xs) = omega (arith, fields_more a xs, field_long a, groups_short 9 (length a), length-append (entry a) (listed xs), fields_fit xs)

pub fields_bound : (s : List ℕ) → length (address_fields (entries s)) ≤ 2 * length s
fields_bound s = omega (arith, fields_fit (entries s), entries_fit s)

pub count_more : (size total : ℕ) {left others : List (List ℕ)} {a : List ℕ} → left ≡ a ∷ others → size + length (address_fields left) ≡ total
    → size + length (address_field a) + length (address_fields others) ≡ total
count_more size total {others = others} {a = a} w h = omega (arith, h, ap (λ (xs : List (List ℕ)). length (address_fields xs)) w, fields_more a others)

pub count_all : (size total : ℕ) {left : List (List ℕ)} → left ≡ [] → size + length (address_fields left) ≡ total → size ≡ total
unfolding address_fields
count_all size total w h = omega (arith, h, ap (λ (xs : List (List ℕ)). length (address_fields xs)) w)

-- storing the fields of the addresses left, from place p on, gives last; then size bytes of the buffer are passed
pub record Storing (left : List (List ℕ)) (o : List ℕ) (p : ℕ) (last : List ℕ) (size : ℕ) : Type 0 where
  pub gives : sets o p (address_fields left) ≡ last
  pub sum : p + length (address_fields left) ≡ size

module _ {left others : List (List ℕ)} {a : List ℕ} {o : List ℕ} {p : ℕ} {last : List ℕ} {size : ℕ} (w : left ≡ a ∷ others) (h : Storing left o p last size) where
  room : p + length (address_field a) + length (address_fields others) ≡ size
  room = omega (arith, h.sum, ap (λ (xs : List (List ℕ)). length (address_fields xs)) w, fields_more a others)

  pub store_room : p + length (address_field a) ≤ size
  store_room = omega (arith, room)

  pub store_more : {x : List ℕ} → x ≡ sets o p (address_field a) → Storing others x (p + length (address_field a)) last size
  unfolding address_fields
  store_more m =
      let g : sets o p (address_field a ++ address_fields others) ≡ last = ap (λ (xs : List (List ℕ)). sets o p (address_fields xs)) (sym w) ∙ h.gives in
      record { gives = rw m (sym (sets_append o p (address_field a) (address_fields others)) ∙ g); sum = room }

pub store_all : {left : List (List ℕ)} {o : List ℕ} {p : ℕ} {last : List ℕ} {size : ℕ} → left ≡ [] → Storing left o p last size → o ≡ last
unfolding address_fields
store_all {o = o} {p = p} w h = sym (ap (λ (xs : List (List ℕ)). sets o p (address_fields xs)) w) ∙ h.gives
