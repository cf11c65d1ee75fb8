-- Reading what was written gives the type and the addresses back, for every type and every list that is accepted.
-- Assumes nothing.
use mathlib.Core.Path.{◌≡◌, refl, ap, ◌∙◌}
use mathlib.Core.List.{List, [], ◌∷◌, ◌++◌, append_assoc}
use mathlib.Core.Bool.{true, false}
use Prim.Native.Nat.{ℕ, zero, suc, ◌+◌, ◌^◌, ◌<◌, ◌≤◌}
use native.Mathlib.Omega.{arith}
use lib.Dec.{eqb-suc-zero}
use lib.ListN.{length, get_or, take, drop, length-append}
use lib.Seq.{drop_at, take-append_seam}
use borrow.Author.Tests.{le-leb, le-ltb, ne_eqb}
use Rattle.std.specs.Prelude.{Ok, Some}
use Rattle.wire.specs.Varint.{value_of, span_of, varint_of, encoded}
use Rattle.wire.specs.Frame.{max_message_size}
use Rattle.wire.specs.Lists.{entries, broken, listed}
use Rattle.wire.proofs.VarintAgain.{read_written}
use Rattle.wire.proofs.Listed.{written_back}
use Rattle.protobuf.specs.Fields.{varint_field, bytes_field, field_of}
use Rattle.message.specs.Message.{Content, says, also, known, step, scan, content_of, over, decode_of, decode_into, kind_of, type_number}
use Rattle.message.specs.Encoding.{address_field, address_fields, message_bytes, sent, sent_into, encode_of, encode_into}
use Rattle.message.specs.declared.Kind.{Kind}
use Rattle.message.specs.declared.Kind.TheVariants.{Connect, Sync}
use Rattle.message.proofs.Scan.{scan_nil}
use Rattle.message.proofs.FieldList.{field_long}
use Rattle.message.proofs.Answers.{sent_is}
use Rattle.protobuf.specs.declared.Field.TheVariants as f

-- ---- one field

-- a tag of one byte
tag_two : (s : List ℕ) → field_of (0x12 ∷ s) ≡ bytes_field 2 1 s (varint_of s)
unfolding field_of varint_of span_of value_of
tag_two s = refl

address_again : (a rest : List ℕ) → length a < 2 ^ 64 → field_of (address_field a ++ rest) ≡ Some (f.Address (1 + length (encoded (length a))) (length a))
address_again a rest h =
    let q : (encoded (length a) ++ a) ++ rest ≡ encoded (length a) ++ (a ++ rest) = append_assoc (encoded (length a)) a rest in
    let l : length (encoded (length a)) + length a ≤ length (encoded (length a) ++ (a ++ rest)) = omega (arith, length-append (encoded (length a)) (a ++ rest), length-append a rest) in
    tag_two ((encoded (length a) ++ a) ++ rest)
    ∙ rw (q, read_written (length a) (a ++ rest) h, le-leb (length (encoded (length a)) + length a) (length (encoded (length a) ++ (a ++ rest))) l)

tag_one : (s : List ℕ) → field_of (0x08 ∷ s) ≡ varint_field 1 1 (varint_of s)
unfolding field_of varint_of span_of value_of
tag_one s = refl

type_again : (v : ℕ) (rest : List ℕ) → v < 2 ^ 64 → field_of (0x08 ∷ (encoded v ++ rest)) ≡ Some (f.Typed v (1 + length (encoded v)))
type_again v rest h = tag_one (encoded v ++ rest) ∙ rw (read_written v rest h)

-- ---- field after field

module _ (a rest : List ℕ) where
  head_dropped : drop (1 + length (encoded (length a))) (address_field a ++ rest) ≡ a ++ rest
  head_dropped =
      let q : (encoded (length a) ++ a) ++ rest ≡ encoded (length a) ++ (a ++ rest) = append_assoc (encoded (length a)) a rest in
      let n : length (0x12 ∷ encoded (length a)) ≡ 1 + length (encoded (length a)) = omega arith in
      ap (λ (x : List ℕ). drop (1 + length (encoded (length a))) (0x12 ∷ x)) q ∙ drop_at (0x12 ∷ encoded (length a)) (a ++ rest) (1 + length (encoded (length a))) n

  field_dropped : drop (1 + length (encoded (length a)) + length a) (address_field a ++ rest) ≡ rest
  field_dropped = drop_at (address_field a) rest (1 + length (encoded (length a)) + length a) (field_long a)

  address_step : (go : ℕ → List ℕ → Content) (k : ℕ) → length a < 2 ^ 64 → step go k (address_field a ++ rest) (field_of (address_field a ++ rest)) ≡ also a (go k rest)
  address_step go k h =
      ap (step go k (address_field a ++ rest)) (address_again a rest h)
      ∙ rw (head_dropped, field_dropped, take-append_seam a rest)

scan_addresses : (l : List (List ℕ)) (n k : ℕ) → (k ≡ 0 → ⊥) → length (address_fields l) ≤ n → n < 2 ^ 64 → scan n k (address_fields l) ≡ says k l
unfolding address_fields scan
scan_addresses [] n k p h b = scan_nil n k ∙ rw (ne_eqb k 0 p)
scan_addresses (a ∷ l) zero k p h b = absurd (omega arith)
scan_addresses (a ∷ l) (suc n) k p h b =
    let s = address_field a ++ address_fields l in
    let q : length s ≡ length (address_field a) + length (address_fields l) = length-append (address_field a) (address_fields l) in
    let e = field_long a in
    let i : scan n k (address_fields l) ≡ says k l = scan_addresses l n k p (omega arith) (omega arith) in
    let c : length s ≡ 0 → ⊥ = omega arith in
    rw (ne_eqb (length s) 0 c) (address_step a (address_fields l) (scan n) k (omega arith) ∙ ap (also a) i)

type_dropped : (v : ℕ) (rest : List ℕ) → drop (1 + length (encoded v)) (0x08 ∷ (encoded v ++ rest)) ≡ rest
type_dropped v rest = let n : length (0x08 ∷ encoded v) ≡ 1 + length (encoded v) = omega arith in drop_at (0x08 ∷ encoded v) rest (1 + length (encoded v)) n

scan_message : (v : ℕ) (l : List (List ℕ)) → v < 2 ^ 64 → known v ≡ true → (v ≡ 0 → ⊥) → length (encoded v ++ address_fields l) < 2 ^ 64
    → content_of (0x08 ∷ (encoded v ++ address_fields l)) ≡ says v l
unfolding scan
scan_message v l h t p b =
    let s = encoded v ++ address_fields l in
    let q = length-append (encoded v) (address_fields l) in
    rw (eqb-suc-zero (length s))
    (ap (step (scan (length s)) 0 (0x08 ∷ s)) (type_again v (address_fields l) h)
    ∙ rw (t, type_dropped v (address_fields l)) (scan_addresses l (length s) v p (omega arith) b))

-- of every type and all addresses whose message is short enough, reading gives both back
pub read_back : (k : Kind) (xs : List (List ℕ)) → length (message_bytes k xs) ≤ max_message_size → content_of (message_bytes k xs) ≡ says (type_number k) xs
read_back Connect xs h = scan_message 100 xs (omega arith) refl (omega arith) (omega arith)
read_back Sync xs h = scan_message 300 xs (omega arith) refl (omega arith) (omega arith)

kind_back : (k : Kind) → kind_of (type_number k) ≡ k
kind_back Connect = refl
kind_back Sync = refl

-- what is accepted: the list is not broken, the message m is short enough, and the first n bytes of the buffer are b
accepted_is : (s m b o : List ℕ) (n : ℕ) → sent s m b (length o) ≡ Ok n
    → (broken s ≡ false) × (length m ≤ max_message_size) × (take n (sent_into s m b o) ≡ b)
accepted_is s m b o n e =
    let q = sent_is s m b (length o) n e in
    (q.0, q.1, rw (q.0, le-ltb max_message_size (length m) q.1, le-ltb (length o) (length b) q.2, q.3) (take-append_seam b (drop (length b) o)))

-- a message that says k and xs is read so, where there is room
reads : (m o : List ℕ) (k : Kind) (xs : List (List ℕ)) → length m ≤ max_message_size → content_of m ≡ says (type_number k) xs → length (listed xs) ≤ length o
    → (decode_of m (length o) ≡ Ok (k, length (listed xs))) × (decode_into m o ≡ over (listed xs) o)
unfolding decode_of decode_into
reads m o k xs h e l =
    let t = le-ltb (length o) (length (listed xs)) l in
    (rw (le-ltb max_message_size (length m) h, e, t, kind_back k), rw (le-ltb max_message_size (length m) h, e, t))

pub reads_back : (k : Kind) (s o back : List ℕ) (n : ℕ) → ((i : ℕ) → get_or s i 0 < 256) → encode_of k s (length o) ≡ Ok n → length s ≤ length back
    → (decode_of (take n (encode_into k s o)) (length back) ≡ Ok (k, length s)) × (decode_into (take n (encode_into k s o)) back ≡ over s back)
unfolding encode_of encode_into
reads_back k s o back n f e h =
    let m = message_bytes k (entries s) in
    let q = accepted_is s m m o n e in
    let z : listed (entries s) ≡ s = written_back s f q.0 in
    let l : length (listed (entries s)) ≤ length back = rw z h in
    let t = reads m back k (entries s) q.1 (read_back k (entries s) q.1) l in
    rw q.2 (t.0 ∙ rw z, t.1 ∙ rw z)
