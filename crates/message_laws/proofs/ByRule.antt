-- What reading and writing answer is what the rule's tables say. Assumes nothing.
use mathlib.Core.Path.{◌≡◌, refl, sym, ap, ◌∙◌}
use mathlib.Core.List.{List, [], ◌∷◌, ◌++◌}
use mathlib.Core.Bool.{Bool, true, false}
use mathlib.Core.Logic.{◌⊎◌, inl, inr, ⊎_elim}
use Prim.Native.Nat.{ℕ, ◌+◌, ◌/◌, ◌^◌, ◌<◌, ◌≤◌}
use native.Mathlib.Omega.{arith}
use lib.Dec.{ltb, eqb, eqb-suc-zero}
use lib.ListN.{length, drop}
use borrow.Author.Tests.{lt-ltb, ne_eqb, ltb-true, ltb-false, eqb-true}
use Rattle.std.specs.Prelude.{Err, Ok}
use Rattle.prelude.specs.Choice.{pick, either}
use Rattle.refusal.specs.declared.Refusal.TheVariants.{MessageTooLong, OutputTooShort, BrokenList}
use Rattle.wire.specs.Varint.{groups, encoded}
use Rattle.wire.specs.Frame.{max_message_size, framed}
use Rattle.wire.specs.Lists.{entries, broken, listed}
use Rattle.wire.proofs.Groups.{last_one, one_more}
use Rattle.message.specs.Message.{Content, known, kind_of, over, answered, decode_of, filled, decode_into}
use Rattle.message.specs.Encoding.{address_fields, message_bytes, sent, encode_of, frame_encode_of}
use Rattle.message_laws.specs.Refused.{
  Said,
  fields_of,
  fits,
  first,
  faults,
  types,
  addresses,
  address_list,
  read_number,
  last_of,
  read_values,
  read_by,
  varint_size,
  address_bytes,
  message_size,
  frame_size,
  write_number,
  write_values,
  written_by,
}
use Rattle.message_laws.specs.Refused.Said.{typed, address, skipped, malformed}
use Rattle.message.specs.declared.Kind.{Kind}
use Rattle.message.specs.declared.Kind.TheVariants.{Connect, Sync}
use Rattle.message.proofs.FieldList.{field_long, fields_more}
use Rattle.message.proofs.Answers.{frame_adds}
use Rattle.message_laws.proofs.Told.{finish, Outcome, outcome, scan_told}
use Rattle.message_laws.proofs.Told.Outcome.{faulty, sound}

-- ---- read: the type that was met last

-- a type without a fault is known, and so are those behind it
known_on : (v : ℕ) (xs : List Said) → first (faults (typed v ∷ xs)) ≡ 0 → (known v ≡ true) × (first (faults xs) ≡ 0)
unfolding first faults
known_on v xs = go (known v)
  where
    go : (t : Bool) → pick (eqb (pick t 0 10) 0) (first (faults xs)) (pick t 0 10) ≡ 0 → (t ≡ true) × (first (faults xs) ≡ 0)
    go true h = (refl, h)
    go false h = absurd (omega arith)

last_known : (k : ℕ) (xs : List Said) → first (faults xs) ≡ 0 → known k ≡ true → known (last_of k (types xs)) ≡ true
unfolding types last_of first faults
last_known k [] h e = e
last_known k (typed v ∷ xs) h e = let q = known_on v xs h in last_known v xs q.1 q.0
last_known k (address a ∷ xs) h e = last_known k xs h e
last_known k (skipped ∷ xs) h e = last_known k xs h e
last_known k (malformed ∷ xs) h e = absurd (omega arith)

-- none was met, or the last one is known
last_met : (xs : List Said) → first (faults xs) ≡ 0
    → ((eqb (length (types xs)) 0 ≡ true) × (last_of 0 (types xs) ≡ 0)) ⊎ ((eqb (length (types xs)) 0 ≡ false) × (known (last_of 0 (types xs)) ≡ true))
unfolding types last_of first faults
last_met [] h = inl (refl, refl)
last_met (typed v ∷ xs) h = let q = known_on v xs h in inr (eqb-suc-zero (length (types xs)), last_known v xs q.1 q.0)
last_met (address a ∷ xs) h = last_met xs h
last_met (skipped ∷ xs) h = last_met xs h
last_met (malformed ∷ xs) h = absurd (omega arith)

known_kind : (k n : ℕ) → known k ≡ true → (eqb k 0 ≡ false) × (read_values (Ok (kind_of k, n)) ≡ 0 ∷ k ∷ n ∷ [])
known_kind k n h = go (eqb k 100) refl (eqb k 300) refl h
  where
    go : (a : Bool) → eqb k 100 ≡ a → (b : Bool) → eqb k 300 ≡ b → either a b ≡ true → (eqb k 0 ≡ false) × (read_values (Ok (pick a Connect Sync, n)) ≡ 0 ∷ k ∷ n ∷ [])
    go true p b q h = let z = eqb-true k 100 p in (rw z, rw z)
    go false p true q h = let z = eqb-true k 300 q in (rw z, rw z)
    go false p false q h = let z : ◌≡◌ {A = ℕ} 0 1 = cc in absurd (omega arith)

-- ---- read: the answer

-- the rule's number by its four lines: too long, the first fault, no type met, too little room
abbrev number : Bool → ℕ → Bool → Bool → ℕ
number long fault none short = first (fits long 6 ∷ fault ∷ fits none 9 ∷ fits short 7 ∷ [])

-- at the end of fields without a fault, where k was met last
end_told : (k room : ℕ) (ys : List (List ℕ)) (none : Bool) → ((none ≡ true) × (k ≡ 0)) ⊎ ((none ≡ false) × (known k ≡ true))
    → let n = number false 0 none (ltb room (length (listed ys))) in read_values (answered room (finish k ys)) ≡ pick (eqb n 0) (0 ∷ k ∷ length (listed ys) ∷ []) (n ∷ [])
unfolding first
end_told k room ys none (inl (p, q)) = rw (p, q)
end_told k room ys none (inr (p, q)) = let z = known_kind k (length (listed ys)) q in rw (p, z.0) (go (ltb room (length (listed ys))) z.1)
  where
    go : (short : Bool) → read_values (Ok (kind_of k, length (listed ys))) ≡ 0 ∷ k ∷ length (listed ys) ∷ []
        → read_values (pick short (Err OutputTooShort) (Ok (kind_of k, length (listed ys))))
        ≡ pick (eqb (number false 0 false short) 0) (0 ∷ k ∷ length (listed ys) ∷ []) (number false 0 false short ∷ [])
    go true z = refl
    go false z = z

answer_told : (xs : List Said) (room : ℕ) (c : Content) → Outcome 0 xs c → (long : Bool)
    → let n = number long (first (faults xs)) (eqb (length (types xs)) 0) (ltb room (length (listed (addresses xs)))) in
    read_values (pick long (Err MessageTooLong) (answered room c)) ≡ pick (eqb n 0) (0 ∷ last_of 0 (types xs) ∷ length (listed (addresses xs)) ∷ []) (n ∷ [])
unfolding first
answer_told xs room c o true = refl
answer_told xs room c (faulty p n) false = let q = ne_eqb (first (faults xs)) 0 n in rw (q, q, p)
answer_told xs room c (sound p) false = rw p (end_told (last_of 0 (types xs)) room (addresses xs) (eqb (length (types xs)) 0) (last_met xs p))

pub read_told : (m : List ℕ) (room : ℕ) → read_values (decode_of m room) ≡ read_by m room
unfolding decode_of read_number
read_told m room = rw (scan_told (length m) 0 m) (answer_told (fields_of m) room _ (outcome 0 (fields_of m)) (ltb 4096 (length m)))

-- where no number fits, the list of the addresses is stored
store_told : (xs : List Said) (out : List ℕ) (c : Content) → Outcome 0 xs c → (long : Bool)
    → number long (first (faults xs)) (eqb (length (types xs)) 0) (ltb (length out) (length (listed (addresses xs)))) ≡ 0
    → pick long out (filled out c) ≡ over (listed (addresses xs)) out
unfolding first
store_told xs out c o true h = absurd (omega arith)
store_told xs out c (faulty p n) false h = absurd (n (rw (ne_eqb (first (faults xs)) 0 n) at h))
store_told xs out c (sound p) false h = ⊎_elim none met (last_met xs p)
  where
    none : (eqb (length (types xs)) 0 ≡ true) × (last_of 0 (types xs) ≡ 0) → filled out (finish (last_of 0 (types xs)) (addresses xs)) ≡ over (listed (addresses xs)) out
    none (a, b) = let z : ◌≡◌ {A = ℕ} 9 0 = rw (p, a) at h in absurd (omega arith)

    go : (short : Bool) → number false 0 false short ≡ 0 → pick short out (over (listed (addresses xs)) out) ≡ over (listed (addresses xs)) out
    go true g = absurd (omega arith)
    go false g = refl

    met : (eqb (length (types xs)) 0 ≡ false) × (known (last_of 0 (types xs)) ≡ true) → filled out (finish (last_of 0 (types xs)) (addresses xs)) ≡ over (listed (addresses xs)) out
    met (a, b) = rw (known_kind (last_of 0 (types xs)) 0 b).0 (go (ltb (length out) (length (listed (addresses xs)))) (rw (p, a) at h))

pub stored_told : (m out : List ℕ) → read_number m (length out) ≡ 0 → decode_into m out ≡ address_list m ++ drop (length (address_list m)) out
unfolding decode_into read_number
stored_told m out h = rw (scan_told (length m) 0 m) (store_told (fields_of m) out _ (outcome 0 (fields_of m)) (ltb 4096 (length m)) h)

-- ---- written: the sizes

-- equal, or both above what a message may have
abbrev Sizes : ℕ → ℕ → Type 0
Sizes a b = (a ≡ b) ⊎ ((4096 < a) × (4096 < b))

varint_long : (n : ℕ) → n < 16_384 → length (encoded n) ≡ varint_size n
varint_long n h = go (ltb n 128) refl
  where
    go : (t : Bool) → ltb n 128 ≡ t → length (encoded n) ≡ pick t 1 (pick (ltb n 16_384) 2 3)
    go true e = let l = ltb-true n 128 e in rw (last_one 9 n l)
    go false e =
        let l = ltb-false n 128 e in
        let k : n < 2 ^ 70 = omega arith in
        let u : n / 128 < 128 = omega arith in
        rw (lt-ltb n 16_384 h, one_more 10 n k l, last_one 8 (n / 128) u)

addresses_long : (xs : List (List ℕ)) → Sizes (address_bytes xs) (length (address_fields xs))
unfolding address_bytes address_fields
addresses_long [] = inl refl
addresses_long (a ∷ xs) = go (ltb (length a) 16_384) refl (addresses_long xs)
  where
    q : length (address_fields (a ∷ xs)) ≡ 1 + length (encoded (length a)) + length a + length (address_fields xs)
    q = fields_more a xs ∙ ap (λ (n : ℕ). n + length (address_fields xs)) (field_long a)

    go : (t : Bool) → ltb (length a) 16_384 ≡ t → Sizes (address_bytes xs) (length (address_fields xs))
        → Sizes (1 + varint_size (length a) + length a + address_bytes xs) (length (address_fields (a ∷ xs)))
    go true e (inl p) = inl (omega (arith, q, varint_long (length a) (ltb-true (length a) 16_384 e)))
    go true e (inr p) = inr (omega arith, omega (arith, q))
    go false e p = let l = ltb-false (length a) 16_384 e in inr (omega arith, omega (arith, q))

message_long : (k : Kind) (s : List ℕ) → Sizes (message_size k s) (length (message_bytes k (entries s)))
unfolding groups
message_long Connect s = ⊎_elim (λ p. inl (omega arith)) (λ p. inr (omega arith, omega arith)) (addresses_long (entries s))
message_long Sync s = ⊎_elim (λ p. inl (omega arith)) (λ p. inr (omega arith, omega arith)) (addresses_long (entries s))

frame_long : (m : List ℕ) (n : ℕ) → length m ≤ 4096 → n ≡ length m → varint_size n + n ≡ length (framed m)
frame_long m n h e = frame_adds m e (sym (varint_long n (omega arith)))

-- ---- written: the answer

module _ (s m b : List ℕ) (size whole room : ℕ) (w : length m ≤ 4096 → size ≡ length m → whole ≡ length b) where
  -- the bytes are as many as the rule says, where the message is short enough
  fit_told : (long : Bool) → ltb 4096 (length m) ≡ long → size ≡ length m → (short : Bool) → ltb room (length b) ≡ short
      → let n = first (fits (ltb 4096 size) 6 ∷ fits (ltb room whole) 7 ∷ []) in
      write_values (pick long (Err MessageTooLong) (pick short (Err OutputTooShort) (Ok (length b)))) ≡ pick (eqb n 0) (0 ∷ whole ∷ []) (n ∷ [])
  unfolding first
  fit_told true p q short r = rw (q, p)
  fit_told false p q true r = let z = w (ltb-false 4096 (length m) p) q in rw (q, p, z, r)
  fit_told false p q false r = let z = w (ltb-false 4096 (length m) p) q in rw (q, p, z, r)

  write_told : Sizes size (length m) → write_values (sent s m b room) ≡ written_by s size whole room
  unfolding write_number first
  write_told p = go (broken s) p
    where
      go : (t : Bool) → Sizes size (length m)
          → let n = first (fits t 5 ∷ fits (ltb 4096 size) 6 ∷ fits (ltb room whole) 7 ∷ []) in
          write_values (pick t (Err BrokenList) (pick (ltb max_message_size (length m)) (Err MessageTooLong) (pick (ltb room (length b)) (Err OutputTooShort) (Ok (length b)))))
          ≡ pick (eqb n 0) (0 ∷ whole ∷ []) (n ∷ [])
      go true p = refl
      go false (inl p) = fit_told (ltb 4096 (length m)) refl p (ltb room (length b)) refl
      go false (inr (p, q)) = rw (lt-ltb 4096 size p, lt-ltb 4096 (length m) q)

pub written_told : (k : Kind) (s : List ℕ) (room : ℕ) → write_values (encode_of k s room) ≡ written_by s (message_size k s) (message_size k s) room
unfolding encode_of
written_told k s room =
    let m = message_bytes k (entries s) in
    write_told s m m (message_size k s) (message_size k s) room (λ h e. e) (message_long k s)

pub framed_told : (k : Kind) (s : List ℕ) (room : ℕ) → write_values (frame_encode_of k s room) ≡ written_by s (message_size k s) (frame_size k s) room
unfolding frame_encode_of
framed_told k s room =
    let m = message_bytes k (entries s) in
    write_told s m (framed m) (message_size k s) (frame_size k s) room (frame_long m (message_size k s)) (message_long k s)
