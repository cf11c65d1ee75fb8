-- A message's fields, as the rule tells them, are those that reading meets. Assumes nothing.
use mathlib.Core.Path.{◌≡◌, refl, sym, ap, subst}
use mathlib.Core.List.{List, [], ◌∷◌}
use mathlib.Core.Bool.{Bool, true, false}
use Prim.Native.Nat.{ℕ, zero, suc, ◌+◌, ◌/◌, ◌%◌, ◌<◌, ◌≤◌}
use native.Mathlib.Omega.{arith}
use lib.Dec.{ltb, leb, eqb, eqb-suc-zero}
use lib.ListN.{length, take, drop}
use lib.Seq.{drop-drop}
use borrow.Author.Tests.{le-leb, lt-leb, ltb-true, ltb-false, eqb-true, eqb-false, ne_eqb}
use Rattle.std.specs.Prelude.{None, Option, Some, ℕ}
use Rattle.prelude.specs.Choice.{pick, both}
use Rattle.refusal.specs.Number.{number_of}
use Rattle.refusal.specs.declared.Refusal.{Refusal}
use Rattle.refusal.specs.declared.Refusal.TheVariants as why
use Rattle.wire.specs.Varint.{varint_of}
use Rattle.wire.proofs.Spans.{varint_size}
use Rattle.protobuf.specs.Fields.{max_field, varint_field, fixed_field, bytes_field, payload_of, tagged, field_of}
use Rattle.message.specs.Message.{Content, says, refused, also, known, ended, step, scan}
use Rattle.message_laws.specs.Refused.{number_in, bytes_in, payload_size, field_size, well_formed, Said, said_by, said, fields}
use Rattle.message_laws.specs.Refused.{first, faults, types, addresses, last_of}
use Rattle.message_laws.specs.Refused.Said.{typed, address, skipped, malformed}
use Rattle.protobuf.specs.declared.Field.{Field}
use Rattle.protobuf.specs.declared.Field.TheVariants as f

-- ---- one field

-- a field that reading meets in s, against whether it is well formed, its size and what it says
abbrev Meets : List ℕ → Bool → ℕ → Said → Option Field → Type 0
Meets s good size x (Some (f.Typed v n)) = (good ≡ true) × (size ≡ n) × (x ≡ typed v)
Meets s good size x (Some (f.Address b l)) = (good ≡ true) × (size ≡ b + l) × (x ≡ address (take l (drop b s)))
Meets s good size x (Some (f.Other n)) = (good ≡ true) × (size ≡ n) × (x ≡ skipped)
Meets s good size x None = good ≡ false

-- the payload of size z ends within n bytes
abbrev inside : ℕ → ℕ → Bool
inside z n = both (leb 1 z) (leb z n)

inside_true : (z n : ℕ) → 1 ≤ z → z ≤ n → inside z n ≡ true
inside_true z n h g = rw (le-leb 1 z h, le-leb z n g)

-- a field of another number or wire type is skipped
skip : (a b : Bool) (x y z : Said) → pick (both a false) x (pick (both b false) y z) ≡ z
skip true true x y z = refl
skip true false x y z = refl
skip false true x y z = refl
skip false false x y z = refl

-- field n behind a tag of t bytes, whose payload may begin with r
module _ (s : List ℕ) (n t : ℕ) where
  abbrev left : ℕ
  left = length (drop t s)

  varint_meets : (r : Option (ℕ × ℕ)) → r ≡ varint_of (drop t s) → Meets s (inside (bytes_in r) left) (t + bytes_in r) (said_by n 0 r (drop t s)) (varint_field n t r)
  varint_meets (Some (v, k)) e = go (eqb n 1) (eqb n 2)
    where
      ends : inside k left ≡ true
      ends = let q = varint_size (drop t s) v k e in inside_true k left (omega arith) (omega arith)

      go : (a b : Bool)
          → Meets s (inside k left) (t + k) (pick (both a true) (typed v) (pick (both b false) (address (take v (drop k (drop t s)))) skipped))
          (Some (pick a (f.Typed v (t + k)) (f.Other (t + k))))
      go true b = (ends, refl, refl)
      go false true = (ends, refl, refl)
      go false false = (ends, refl, refl)
  varint_meets None e = refl

  -- z bytes, one at least
  fixed_meets : (z : ℕ) (x : Said) → x ≡ skipped → leb 1 z ≡ true → Meets s (inside z left) (t + z) x (fixed_field z t (drop t s))
  fixed_meets z x e h = rw h (go (leb z left))
    where
      go : (a : Bool) → Meets s a (t + z) x (pick a (Some (f.Other (t + z))) None)
      go true = (refl, refl, e)
      go false = refl

  bytes_meets : (r : Option (ℕ × ℕ)) → r ≡ varint_of (drop t s) → Meets s (inside (bytes_in r + number_in r) left) (t + (bytes_in r + number_in r)) (said_by n 2 r (drop t s)) (bytes_field n t (drop t s) r)
  bytes_meets (Some (v, k)) e = rw (le-leb 1 (k + v) one) (go (leb (k + v) left) (eqb n 1) (eqb n 2))
    where
      one : 1 ≤ k + v
      one = let q = varint_size (drop t s) v k e in omega arith

      go : (g a b : Bool)
          → Meets s g (t + (k + v)) (pick (both a false) (typed v) (pick (both b true) (address (take v (drop k (drop t s)))) skipped))
          (pick g (Some (pick b (f.Address (t + k) v) (f.Other (t + k + v)))) None)
      go true true true = (refl, omega arith, rw (drop-drop k t s))
      go true true false = (refl, omega arith, refl)
      go true false true = (refl, omega arith, rw (drop-drop k t s))
      go true false false = (refl, omega arith, refl)
      go false a b = refl
  bytes_meets None e = refl

  abbrev payload_by : ℕ → Option (ℕ × ℕ) → Option Field
  payload_by w r =
      pick (eqb w 0) (varint_field n t r)
      (pick (eqb w 1) (fixed_field 8 t (drop t s))
      (pick (eqb w 2) (bytes_field n t (drop t s) r) (pick (eqb w 5) (fixed_field 4 t (drop t s)) None)))

  payload_meets : (w : ℕ) (r : Option (ℕ × ℕ)) → r ≡ varint_of (drop t s) → Meets s (inside (payload_size w r) left) (t + payload_size w r) (said_by n w r (drop t s)) (payload_by w r)
  payload_meets zero r e = varint_meets r e
  payload_meets (suc zero) r e = fixed_meets 8 _ (skip (eqb n 1) (eqb n 2) _ _ _) refl
  payload_meets (suc (suc zero)) r e = bytes_meets r e
  payload_meets (suc (suc (suc zero))) r e = refl
  payload_meets (suc (suc (suc (suc zero)))) r e = refl
  payload_meets (suc (suc (suc (suc (suc zero))))) r e = fixed_meets 4 _ (skip (eqb n 1) (eqb n 2) _ _ _) refl
  payload_meets (suc (suc (suc (suc (suc (suc u)))))) r e = above (suc (suc (suc (suc (suc (suc u)))))) r (omega arith)
    where
      above : (w : ℕ) (r : Option (ℕ × ℕ)) → 5 < w → Meets s (inside (payload_size w r) left) (t + payload_size w r) (said_by n w r (drop t s)) (payload_by w r)
      above w r h = rw (ne_eqb w 0 (omega arith), ne_eqb w 1 (omega arith), ne_eqb w 2 (omega arith), ne_eqb w 5 (omega arith)) refl

-- by its tag r
tag_meets : (s : List ℕ) (r : Option (ℕ × ℕ)) → r ≡ varint_of s
    → Meets s
    (both (both (leb 1 (number_in r / 8)) (leb (number_in r / 8) 536_870_911)) (inside (payload_size (number_in r % 8) (varint_of (drop (bytes_in r) s))) (length (drop (bytes_in r) s))))
    (bytes_in r + payload_size (number_in r % 8) (varint_of (drop (bytes_in r) s)))
    (said_by (number_in r / 8) (number_in r % 8) (varint_of (drop (bytes_in r) s)) (drop (bytes_in r) s))
    (tagged s r)
tag_meets s None e = refl
tag_meets s (Some (v, t)) e = go (eqb (v / 8) 0) refl (ltb max_field (v / 8)) refl
  where
    q : (Option (ℕ × ℕ))
    q = varint_of (drop t s)

    go : (a : Bool) → eqb (v / 8) 0 ≡ a → (b : Bool) → ltb max_field (v / 8) ≡ b
        → Meets s
        (both (both (leb 1 (v / 8)) (leb (v / 8) 536_870_911)) (inside (payload_size (v % 8) q) (length (drop t s))))
        (t + payload_size (v % 8) q)
        (said_by (v / 8) (v % 8) q (drop t s))
        (pick a None (pick b None (payload_of (v / 8) (v % 8) t (drop t s))))
    go true g b h = let z : v / 8 < 1 = omega (arith, eqb-true (v / 8) 0 g) in rw (lt-leb 1 (v / 8) z)
    go false g true h =
        let z : 1 ≤ v / 8 = omega (arith, eqb-false (v / 8) 0 g) in
        let y : 536_870_911 < v / 8 = ltb-true max_field (v / 8) h in
        rw (le-leb 1 (v / 8) z, lt-leb (v / 8) 536_870_911 y)
    go false g false h =
        let z : 1 ≤ v / 8 = omega (arith, eqb-false (v / 8) 0 g) in
        let y : v / 8 ≤ 536_870_911 = ltb-false max_field (v / 8) h in
        rw (le-leb 1 (v / 8) z, le-leb (v / 8) 536_870_911 y) (payload_meets s (v / 8) t (v % 8) q refl)

field_meets : (s : List ℕ) → Meets s (well_formed s) (field_size s) (said s) (field_of s)
unfolding field_of
field_meets s = tag_meets s (varint_of s) refl

-- ---- field after field

-- what reading makes of the fields, where the type k was met last
unfoldable pub told : ℕ → List Said → Content
told k [] = ended k
told k (typed v ∷ xs) = pick (known v) (told v xs) (refused why.WrongType)
told k (address a ∷ xs) = also a (told k xs)
told k (skipped ∷ xs) = told k xs
told k (malformed ∷ xs) = refused why.Malformed

step_told : (n k : ℕ) (s : List ℕ) → ((j : ℕ) (u : List ℕ) → scan n j u ≡ told j (fields n u)) → (good : Bool) (size : ℕ) (x : Said) (y : Option Field) → Meets s good size x y
    → step (scan n) k s y ≡ told k (pick good (x ∷ fields n (drop size s)) (malformed ∷ []))
unfolding told
step_told n k s next good size x (Some (f.Typed v z)) (g, h, e) = rw (g, e, h) (ap (λ (c : Content). pick (known v) c (refused why.WrongType)) (next v (drop z s)))
step_told n k s next good size x (Some (f.Address b l)) (g, h, e) = rw (g, e, h) (ap (also (take l (drop b s))) (next k (drop (b + l) s)))
step_told n k s next good size x (Some (f.Other z)) (g, h, e) = rw (g, e, h) (next k (drop z s))
step_told n k s next good size x None g = rw g

pub scan_told : (n k : ℕ) (s : List ℕ) → scan n k s ≡ told k (fields n s)
unfolding scan fields told
scan_told zero k s = refl
scan_told (suc n) k [] = refl
scan_told (suc n) k (b ∷ s) =
    rw (eqb-suc-zero (length s))
    (step_told n k (b ∷ s) (scan_told n) (well_formed (b ∷ s)) (field_size (b ∷ s)) (said (b ∷ s)) (field_of (b ∷ s)) (field_meets (b ∷ s)))

-- ---- the first fault, the types and the addresses

-- at the end of the fields, where the type k was met last
abbrev pub finish : ℕ → List (List ℕ) → Content
finish k xs = pick (eqb k 0) (refused why.NoType) (says k xs)

finish_also : (a : List ℕ) (k : ℕ) (xs : List (List ℕ)) → also a (finish k xs) ≡ finish k (a ∷ xs)
finish_also a k xs = go (eqb k 0)
  where
    go : (t : Bool) → also a (pick t (refused why.NoType) (says k xs)) ≡ pick t (refused why.NoType) (says k (a ∷ xs))
    go true = refl
    go false = refl

-- what reading makes of the fields: their first fault, or their end
pub data Outcome (k : ℕ) (xs : List Said) : Content → Type 0 where
  faulty : {w : Refusal} → number_of w ≡ first (faults xs) → (first (faults xs) ≡ 0 → ⊥) → Outcome k xs (refused w)
  sound : first (faults xs) ≡ 0 → Outcome k xs (finish (last_of k (types xs)) (addresses xs))

-- a field without a fault before the others
address_on : (k : ℕ) (a : List ℕ) (xs : List Said) (c : Content) → Outcome k xs c → Outcome k (address a ∷ xs) (also a c)
unfolding first faults types addresses
address_on k a xs c (faulty e n) = faulty e n
address_on k a xs c (sound e) = subst (Outcome k (address a ∷ xs)) (sym (finish_also a (last_of k (types xs)) (addresses xs))) (sound e)

skipped_on : (k : ℕ) (xs : List Said) (c : Content) → Outcome k xs c → Outcome k (skipped ∷ xs) c
unfolding first faults types addresses
skipped_on k xs c (faulty e n) = faulty e n
skipped_on k xs c (sound e) = sound e

typed_on : (k v : ℕ) (xs : List Said) (c : Content) → known v ≡ true → Outcome v xs c → Outcome k (typed v ∷ xs) c
unfolding first faults types addresses last_of
typed_on k v xs c h (faulty {w = w} e n) = faulty {w = w} (rw h e) (rw h n)
typed_on k v xs c h (sound e) = sound (rw h e)

pub outcome : (k : ℕ) (xs : List Said) → Outcome k xs (told k xs)
unfolding told first faults types addresses last_of
outcome k [] = sound refl
outcome k (typed v ∷ xs) = go (known v) refl (outcome v xs)
  where
    go : (t : Bool) → known v ≡ t → Outcome v xs (told v xs) → Outcome k (typed v ∷ xs) (pick t (told v xs) (refused why.WrongType))
    go true e o = typed_on k v xs (told v xs) e o
    go false e o = faulty {w = why.WrongType} (rw e) (rw e (λ z. omega arith))
outcome k (address a ∷ xs) = address_on k a xs (told k xs) (outcome k xs)
outcome k (skipped ∷ xs) = skipped_on k xs (told k xs) (outcome k xs)
outcome k (malformed ∷ xs) = faulty refl (λ z. omega arith)
