-- The frames that go out: what the encoder's answer makes of them, and how long they are.
-- Assumes nothing.
use mathlib.Core.Path.{◌≡◌, refl, ap, ◌∙◌}
use mathlib.Core.Bool.{Bool, true, false}
use mathlib.Core.List.{List, [], ◌∷◌}
use Prim.Native.Nat.{ℕ, zero, suc, ◌+◌, ◌-◌, ◌*◌, ◌/◌, ◌^◌, ◌<◌, ◌≤◌}
use native.Mathlib.Omega.{arith}
use borrow.Author.Tests.{le-leb, lt-leb, ltb-true, ltb-false}
use lib.Dec.{ltb, leb}
use lib.ListN.{length, drop, replicate, length-append, length-replicate}
use Rattle.std.specs.Prelude.{Err, Ok, Result, ℕ}
use Rattle.std.specs.Result.{result_unwrap_or}
use Rattle.prelude.specs.Lists.{count}
use Rattle.prelude.specs.Choice.{pick, bit}
use Rattle.refusal.specs.declared.Refusal.{Refusal}
use Rattle.refusal.specs.declared.Refusal.TheVariants.{BrokenList, MessageTooLong, OutputTooShort}
use Rattle.wire.specs.Varint.{encoded}
use Rattle.wire.specs.Frame.{max_message_size}
use Rattle.wire.specs.Lists.{entries, broken, listed}
use Rattle.wire.proofs.Groups.{last_one, one_more}
use Rattle.wire.proofs.Listed.{All, read_back, unbroken}
use Rattle.message.specs.Message.{over}
use Rattle.message.specs.Encoding.{address_field, address_fields, message_bytes, frame_bytes, frame_encode_of, frame_encode_into}
use Rattle.message.specs.declared.Kind.TheVariants.{Connect}
use Rattle.message.proofs.FieldList.{field_long, fields_more}
use Rattle.message.proofs.Answers.{message_long}
use Rattle.address.specs.Multiaddr.{longest4, longest6}
use Rattle.candidates.specs.Entries.{longer_than}
use Rattle.candidates.specs.Selection.{usual, most}
use Rattle.frames.specs.Sent.{frame_capacity, field_size, packed, connect_frame}
use Rattle.frames.specs.Sent.{Framed}

-- ---- the encoder's answer, packed

rest_blank : (k n x : ℕ) → drop k (replicate n x) ≡ replicate (n - k) x
rest_blank zero n x = let e : n - 0 ≡ n = omega arith in rw e
rest_blank (suc k) zero x = let e : 0 - suc k ≡ 0 = omega arith in rw e
rest_blank (suc k) (suc n) x = let e : suc n - suc k ≡ n - k = omega arith in rest_blank k n x ∙ rw e

-- the answer and the buffer that the encoder leaves make a frame
abbrev made : Result ℕ Refusal → List ℕ → Framed
made r o = record { bytes = o; len = result_unwrap_or r 0 }

module _ (s : List ℕ) where
  abbrev m : List ℕ
  m = message_bytes Connect (entries s)

  abbrev f : List ℕ
  f = frame_bytes Connect (entries s)

  short : length f ≤ frame_capacity → length m ≤ max_message_size
  short h = omega (arith, length-append (encoded (length m)) m)

  made_is : made (frame_encode_of Connect s frame_capacity) (frame_encode_into Connect s (replicate frame_capacity 0)) ≡ connect_frame s
  unfolding frame_encode_of frame_encode_into connect_frame
  made_is = go (broken s) (ltb max_message_size (length m)) refl (ltb frame_capacity (length f)) refl
    where
      go : (p q : Bool) → ltb max_message_size (length m) ≡ q → (r : Bool) → ltb frame_capacity (length f) ≡ r
          → made (pick p (Err BrokenList) (pick q (Err MessageTooLong) (pick r (Err OutputTooShort) (Ok (length f)))))
          (pick p (replicate frame_capacity 0) (pick q (replicate frame_capacity 0) (pick r (replicate frame_capacity 0) (over f (replicate frame_capacity 0)))))
          ≡ pick p (packed []) (pick (leb (length f) frame_capacity) (packed f) (packed []))
      go true q i r j = refl
      go false true i r j =
          let l = ltb-true max_message_size (length m) i in
          let g : frame_capacity < length f = omega (arith, length-append (encoded (length m)) m) in
          rw (lt-leb (length f) frame_capacity g)
      go false false i true j = rw (lt-leb (length f) frame_capacity (ltb-true frame_capacity (length f) j))
      go false false i false j =
          rw (le-leb (length f) frame_capacity (ltb-false frame_capacity (length f) j), rest_blank (length f) frame_capacity 0)

  module _ {r : Result ℕ Refusal} {o b : List ℕ} (z : b ≡ replicate frame_capacity 0) (a : r ≡ frame_encode_of Connect s (length b)) (i : o ≡ frame_encode_into Connect s b) where
    pub connect_made : made r o ≡ connect_frame s
    connect_made =
        let l : length b ≡ frame_capacity = ap length z ∙ length-replicate {A = ℕ} frame_capacity 0 in
        rw (a, i, l, z) made_is

-- ---- how long CONNECT is

small_head : (v : ℕ) → v < 16384 → length (encoded v) ≤ 2
small_head v h = go (ltb v 128) refl
  where
    go : (t : Bool) → ltb v 128 ≡ t → length (encoded v) ≤ 2
    go true e = let o : length (encoded v) ≡ 1 = ap length (last_one 9 v (ltb-true v 128 e)) in omega arith
    go false e =
        let k : v < 2 ^ 70 = omega arith in
        let o = ap length (one_more 10 v k (ltb-false v 128 e)) in
        let q = ap length (last_one 8 (v / 128) (omega arith)) in
        omega arith

short_field : (a : List ℕ) → length a ≤ longest6 → length (address_field a) ≤ field_size (length a)
short_field a h = omega (arith, field_long a, small_head (length a) (omega arith))

fields_long : (xs : List (List ℕ)) → count (longer_than longest6) xs ≡ 0 → length (address_fields xs) ≤ field_size longest4 * length xs + (longest6 - longest4) * count (longer_than longest4) xs
unfolding address_fields count
fields_long [] h = omega arith
fields_long (a ∷ xs) h = go (ltb longest6 (length a)) refl (ltb longest4 (length a)) refl h (fields_long xs)
  where
    go : (p : Bool) → ltb longest6 (length a) ≡ p → (q : Bool) → ltb longest4 (length a) ≡ q → bit p + count (longer_than longest6) xs ≡ 0
        → (count (longer_than longest6) xs ≡ 0 → length (address_fields xs) ≤ field_size longest4 * length xs + (longest6 - longest4) * count (longer_than longest4) xs)
        → length (address_fields (a ∷ xs)) ≤ field_size longest4 * suc (length xs) + (longest6 - longest4) * (bit q + count (longer_than longest4) xs)
    go true i q j h r = absurd (omega arith)
    go false i true j h r =
        let l = ltb-false longest6 (length a) i in
        let t = r (omega arith) in
        omega (arith, fields_more a xs, short_field a l)
    go false i false j h r =
        let l = ltb-false longest6 (length a) i in
        let k = ltb-false longest4 (length a) j in
        let t = r (omega arith) in
        omega (arith, fields_more a xs, short_field a l)

connect_long : (xs : List (List ℕ)) → length xs ≤ most → count (longer_than longest4) xs ≤ usual.family → count (longer_than longest6) xs ≡ 0 → length (frame_bytes Connect xs) ≤ frame_capacity
connect_long xs h i j =
    let t : length (encoded 100) ≡ 1 = ap length (last_one 9 100 (omega arith)) in
    let b = fields_long xs j in
    let l = message_long Connect xs in
    let s = small_head (length (message_bytes Connect xs)) (omega arith) in
    omega (arith, length-append (encoded (length (message_bytes Connect xs))) (message_bytes Connect xs))

short_all : (xs : List (List ℕ)) → count (longer_than longest6) xs ≡ 0 → All (λ a. length a < 65536) xs
unfolding count
short_all [] h = tt
short_all (a ∷ xs) h = go (ltb longest6 (length a)) refl h (short_all xs)
  where
    go : (p : Bool) → ltb longest6 (length a) ≡ p → bit p + count (longer_than longest6) xs ≡ 0 → (count (longer_than longest6) xs ≡ 0 → All (λ a. length a < 65536) xs) → All (λ a. length a < 65536) (a ∷ xs)
    go true i h r = absurd (omega arith)
    go false i h r = (omega (arith, ltb-false longest6 (length a) i), r (omega arith))

-- the frame of a list of own candidates
pub connect_listed : (xs : List (List ℕ)) → length xs ≤ most → count (longer_than longest4) xs ≤ usual.family → count (longer_than longest6) xs ≡ 0
    → (length (frame_bytes Connect xs) ≤ frame_capacity) × (connect_frame (listed xs) ≡ packed (frame_bytes Connect xs))
unfolding connect_frame
connect_listed xs h i j =
    let l = connect_long xs h i j in
    let s = short_all xs j in
    (l, rw (unbroken xs s, read_back xs s, le-leb (length (frame_bytes Connect xs)) frame_capacity l))
