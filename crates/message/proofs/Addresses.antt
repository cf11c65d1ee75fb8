-- What is left to store of the addresses of a message.
-- Assumes nothing.
use mathlib.Core.Path.{◌≡◌, refl, sym, ap, subst, ◌∙◌}
use mathlib.Core.Logic.{◌⊎◌, ⊎_elim}
use mathlib.Core.List.{List, []}
use mathlib.Core.Bool.{Bool, true, false}
use Prim.Native.Nat.{ℕ, zero, suc, ◌+◌, ◌-◌, ◌<◌, ◌≤◌}
use native.Mathlib.Omega.{arith}
use lib.Dec.{eqb}
use lib.ListN.{length, take, drop}
use lib.Seq.{sets}
use Rattle.std.specs.Prelude.{None, Option, Some}
use Rattle.prelude.specs.Choice.{pick}
use Rattle.refusal.specs.declared.Refusal.TheVariants.{NoType}
use Rattle.wire.specs.Lists.{entry, listed}
use Rattle.wire.proofs.Stores.{sets_append}
use Rattle.protobuf.specs.Fields.{field_of}
use Rattle.message.specs.Message.{Content, says, refused, also, known, ended, scan, accepted, addresses}
use Rattle.protobuf.specs.declared.Field.{Field}
use Rattle.protobuf.specs.declared.Field.TheVariants as f
use Rattle.message.proofs.Scan as sc

false_true : false ≡ true → ⊥
false_true e = let z : ◌≡◌ {A = ℕ} 0 1 = cc in omega arith

-- a part from a to a + l is l bytes from a on
pub part_is : (s : List ℕ) (a l : ℕ) → take (a + l - a) (drop a s) ≡ take l (drop a s)
part_is s a l = let e : a + l - a ≡ l = omega arith in rw e

-- storing the addresses of x from place p on gives last
abbrev pub Left : Content → List ℕ → ℕ → List ℕ → Type 0
Left x o p last = (accepted x ≡ true) × (sets o p (listed (addresses x)) ≡ last)

pub left_also : (a : List ℕ) (x : Content) (o : List ℕ) (p : ℕ) (last : List ℕ) → Left (also a x) o p last
    → Left x (sets o p (entry a)) (p + (2 + length a)) last
unfolding listed
left_also a (says k l) o p last h =
    let e : p + length (entry a) ≡ p + (2 + length a) = omega arith in
    (refl, rw (← e) (sym (sets_append o p (entry a) (listed l)) ∙ h.1))
left_also a (refused w) o p last h = absurd (false_true h.0)

pub left_ended : (k : ℕ) (o : List ℕ) (p : ℕ) (last : List ℕ) → Left (ended k) o p last → o ≡ last
unfolding listed
left_ended k o p last = go (eqb k 0)
  where
    go : (t : Bool) → Left (pick t (refused NoType) (says k [])) o p last → o ≡ last
    go true h = absurd (false_true h.0)
    go false h = h.1

pub left_end : (s : List ℕ) (n k : ℕ) (o : List ℕ) (p : ℕ) (last : List ℕ) → length s ≡ 0 → Left (scan n k s) o p last → o ≡ last
left_end s n k o p last h left = left_ended k o p last (subst (λ (x : Content). Left x o p last) (sc.scan_end s n k h) left)

module _ (s : List ℕ) {r : Option Field} (e : r ≡ field_of s) (n k : ℕ) (fuel : length s ≤ n)
    (o : List ℕ) (p : ℕ) (last : List ℕ) (left : Left (scan n k s) o p last) where
  by : {x : Content} → scan n k s ≡ x → Left x o p last
  by q = subst (λ (y : Content). Left y o p last) q left

  -- where no field follows, nothing is left of an accepted message
  pub left_none : r ≡ None → length s ≡ 0
  left_none d = go (length s) refl
    where
      go : (l : ℕ) → length s ≡ l → length s ≡ 0
      go zero g = g
      go (suc m) g = absurd (false_true (by (sc.malformed s e n k fuel d (omega arith))).0)

  pub left_typed : {v z : ℕ} → r ≡ Some (f.Typed v z) → Left (scan (n - 1) v (drop z s)) o p last
  left_typed {v} {z} d = go (known v) refl
    where
      go : (t : Bool) → known v ≡ t → Left (scan (n - 1) v (drop z s)) o p last
      go true g = by (sc.typed s e n k fuel d g)
      go false g = absurd (false_true (by (sc.wrong s e n k fuel d g)).0)

  pub left_other : {z : ℕ} → r ≡ Some (f.Other z) → Left (scan (n - 1) k (drop z s)) o p last
  left_other d = by (sc.other s e n k fuel d)

  -- a field that is no address is passed, within what is there; under the type k' that was met last
  pub moved : {x : Field} {z : ℕ} → r ≡ Some x → ((v : ℕ) × (x ≡ f.Typed v z)) ⊎ (x ≡ f.Other z)
      → (k' : ℕ) × ((0 < z) × (z ≤ length s)) × Left (scan (n - 1) k' (drop z s)) o p last
  moved {x} {z} d = ⊎_elim typed other
    where
      typed : (v : ℕ) × (x ≡ f.Typed v z) → (k' : ℕ) × ((0 < z) × (z ≤ length s)) × Left (scan (n - 1) k' (drop z s)) o p last
      typed t = let g = d ∙ ap Some t.1 in (t.0, sc.typed_within s e g, left_typed g)

      other : x ≡ f.Other z → (k' : ℕ) × ((0 < z) × (z ≤ length s)) × Left (scan (n - 1) k' (drop z s)) o p last
      other t = let g = d ∙ ap Some t in (k, sc.other_within s e g, left_other g)

  -- the address as the code lends it
  pub left_entry : {b l : ℕ} {x : List ℕ} → r ≡ Some (f.Address b l) → x ≡ sets o p (entry (take (b + l - b) (drop b s)))
      → Left (scan (n - 1) k (drop (b + l) s)) x (p + (2 + l)) last
  left_entry {b} {l} d m =
      let g : length (take l (drop b s)) ≡ l = sc.address_long s e d in
      rw (m, part_is s b l)
      (subst (λ (i : ℕ). Left (scan (n - 1) k (drop (b + l) s)) (sets o p (entry (take l (drop b s)))) (p + (2 + i)) last) g
      (left_also (take l (drop b s)) (scan (n - 1) k (drop (b + l) s)) o p last (by (sc.address s e n k fuel d))))
