-- What reading and writing answer, case by case.
-- Assumes nothing.
use mathlib.Core.Path.{◌≡◌, refl, sym, ap, ◌∙◌}
use mathlib.Core.List.{List}
use mathlib.Core.Bool.{Bool, true, false}
use Prim.Native.Nat.{ℕ, ◌+◌, ◌<◌, ◌≤◌}
use native.Mathlib.Omega.{arith}
use lib.Dec.{ltb}
use lib.ListN.{length, length-append}
use lib.Seq.{sets}
use borrow.Author.Tests.{lt-ltb, le-ltb, ltb-false}
use Rattle.std.specs.Prelude.{Err, Ok, Result, ℕ}
use Rattle.std.specs.Result.{IsErrAnd}
use Rattle.std.proofs.lemmas.Result.{err_from_is_err_and}
use Rattle.prelude.specs.Choice.{pick}
use Rattle.refusal.specs.declared.Refusal.{Refusal}
use Rattle.refusal.specs.declared.Refusal.TheVariants.{BrokenList, MessageTooLong, OutputTooShort}
use Rattle.wire.specs.Varint.{encoded}
use Rattle.wire.specs.Frame.{max_message_size, framed}
use Rattle.wire.specs.Lists.{listed, broken}
use Rattle.wire.proofs.Stores.{sets_front, parts_stored}
use Rattle.message.specs.Message.{Content, says, refused, accepted, addresses, content_of, kind_of, type_number, with_room, over, answered, filled, decode_of, decode_into}
use Rattle.message.specs.Encoding.{type_field, address_fields, message_bytes, sent, sent_into}
use Rattle.message.specs.declared.Kind.{Kind}
use Rattle.message.specs.declared.Kind.TheVariants.{Connect}
use Rattle.message.proofs.Scan.{list_long}

-- what `?` passes on is the error itself: std's `From` of a type for itself is the identity
pub passed : {T E : Type 0} {r : Result T E} {e : E} → IsErrAnd r (λ y. y ≡ e) → r ≡ Err e
passed {T} {E} {r} i = let p = err_from_is_err_and r i in p.1 ∙ ap Err p.2

-- ---- reading

abbrev pair_of : Result (Kind × ℕ) Refusal → Kind × ℕ
pair_of (Ok p) = p
pair_of (Err why) = (Connect, 0)

-- what was measured says what is answered
good_is : (x : Content) (o : List ℕ) {k : Kind} {n : ℕ} → Ok (k, n) ≡ with_room x
    → (accepted x ≡ true) × (n ≡ length (listed (addresses x)))
    × (answered (length o) x ≡ pick (ltb (length o) n) (Err OutputTooShort) (Ok (k, n))) × (filled o x ≡ pick (ltb (length o) n) o (over (listed (addresses x)) o))
good_is (says j l) o {k} {n} e =
    let p : (k, n) ≡ (kind_of j, length (listed l)) = ap pair_of e in
    let c : kind_of j ≡ k = sym (ap (λ (q : Kind × ℕ). q.0) p) in
    let d : n ≡ length (listed l) = ap (λ (q : Kind × ℕ). q.1) p in
    (refl, d, rw (c, d), rw d)
good_is (refused v) o e = let c : ◌≡◌ {A = ℕ} 0 1 = cc in absurd (omega arith)

refused_is : (x : Content) (v : Refusal) → Err v ≡ with_room x → x ≡ refused v
refused_is (says j l) v e = let c : ◌≡◌ {A = ℕ} 0 1 = cc in absurd (omega arith)
refused_is (refused u) v e = cc

module _ (s o : List ℕ) where
  pub read_long : max_message_size < length s → (Err MessageTooLong ≡ decode_of s (length o)) × (o ≡ decode_into s o)
  unfolding decode_of decode_into
  read_long h = (rw (lt-ltb max_message_size (length s) h), rw (lt-ltb max_message_size (length s) h))

  module _ (h : length s ≤ max_message_size) {r : Result (Kind × ℕ) Refusal} (e : r ≡ with_room (content_of s)) where
    pub read_refused : {v : Refusal} → r ≡ Err v → (Err v ≡ decode_of s (length o)) × (o ≡ decode_into s o)
    unfolding decode_of decode_into
    read_refused {v} g =
        let x : content_of s ≡ refused v = refused_is (content_of s) v (sym g ∙ e) in
        (rw (le-ltb max_message_size (length s) h, x), rw (le-ltb max_message_size (length s) h, x))

    module _ {k : Kind} {n : ℕ} (g : r ≡ Ok (k, n)) where
      pub read_good : accepted (content_of s) ≡ true
      read_good = (good_is (content_of s) o (sym g ∙ e)).0

      pub read_short : length o < n → (Err OutputTooShort ≡ decode_of s (length o)) × (o ≡ decode_into s o)
      unfolding decode_of decode_into
      read_short l =
          let p = good_is (content_of s) o (sym g ∙ e) in
          let t = lt-ltb (length o) n l in
          (rw (le-ltb max_message_size (length s) h, p.2, t), rw (le-ltb max_message_size (length s) h, p.3, t))

      pub read_done : n ≤ length o → {x : List ℕ} → x ≡ sets o 0 (listed (addresses (content_of s))) → (Ok (k, n) ≡ decode_of s (length o)) × (x ≡ decode_into s o)
      unfolding decode_of decode_into
      read_done l {x} b =
          let p = good_is (content_of s) o (sym g ∙ e) in
          let c : length (listed (addresses (content_of s))) ≤ length o = omega (arith, p.1) in
          let t = le-ltb (length o) n l in
          (rw (le-ltb max_message_size (length s) h, p.2, t), b ∙ sets_front o (listed (addresses (content_of s))) c ∙ sym (rw (le-ltb max_message_size (length s) h, p.3, t)))

-- a room as long as the message is enough
pub room_enough : (s : List ℕ) (room : ℕ) → length s ≤ max_message_size → length s ≤ room → decode_of s room ≡ with_room (content_of s)
unfolding decode_of
room_enough s room h g = rw (le-ltb max_message_size (length s) h) (go (content_of s) (list_long s))
  where
    go : (x : Content) → length (listed (addresses x)) ≤ length s → answered room x ≡ with_room x
    go (says k xs) l = rw (le-ltb room (length (listed xs)) (omega arith))
    go (refused w) l = refl

-- ---- writing

pub message_long : (k : Kind) (xs : List (List ℕ)) → length (message_bytes k xs) ≡ 1 + length (encoded (type_number k)) + length (address_fields xs)
message_long k xs = omega (arith, length-append (type_field (type_number k)) (address_fields xs))

-- the same with the type's number j
pub message_adds : (k : Kind) (xs : List (List ℕ)) {j : ℕ} → j ≡ type_number k → 1 + length (encoded j) + length (address_fields xs) ≡ length (message_bytes k xs)
message_adds k xs h = rw h (sym (message_long k xs))

-- the size of m, the message of the list s: the room is never too short
module _ (s m : List ℕ) {r : Bool} (q : r ≡ broken s) where
  pub size_broken : r ≡ true → Err BrokenList ≡ sent s m m max_message_size
  size_broken g = let x : broken s ≡ true = sym q ∙ g in rw x

  pub size_long : r ≡ false → max_message_size < length m → Err MessageTooLong ≡ sent s m m max_message_size
  size_long g h = let x : broken s ≡ false = sym q ∙ g in rw (x, lt-ltb max_message_size (length m) h)

  pub size_good : r ≡ false → length m ≤ max_message_size → {n : ℕ} → n ≡ length m → Ok n ≡ sent s m m max_message_size
  size_good g h c = let x : broken s ≡ false = sym q ∙ g in rw (x, le-ltb max_message_size (length m) h, c)

-- an answer that is a length: the list is not broken, the message m is short enough, and what is written of it, b, has room
pub sent_is : (s m b : List ℕ) (room n : ℕ) → sent s m b room ≡ Ok n
    → (broken s ≡ false) × (length m ≤ max_message_size) × (length b ≤ room) × (n ≡ length b)
sent_is s m b room n h = go (broken s) refl (ltb max_message_size (length m)) refl (ltb room (length b)) refl h
  where
    go : (p : Bool) → broken s ≡ p → (q : Bool) → ltb max_message_size (length m) ≡ q → (r : Bool) → ltb room (length b) ≡ r
        → pick p (Err BrokenList) (pick q (Err MessageTooLong) (pick r (Err OutputTooShort) (Ok (length b)))) ≡ Ok n
        → (broken s ≡ false) × (length m ≤ max_message_size) × (length b ≤ room) × (n ≡ length b)
    go true i q j r l h = let c : ◌≡◌ {A = ℕ} 0 1 = cc in absurd (omega arith)
    go false i true j r l h = let c : ◌≡◌ {A = ℕ} 0 1 = cc in absurd (omega arith)
    go false i false j true l h = let c : ◌≡◌ {A = ℕ} 0 1 = cc in absurd (omega arith)
    go false i false j false l h = (i, ltb-false max_message_size (length m) j, ltb-false room (length b) l, cc)

-- the same of the size of m
pub size_is : (s m : List ℕ) {r : Result ℕ Refusal} {n : ℕ} → r ≡ sent s m m max_message_size → r ≡ Ok n → (length m ≤ max_message_size) × (n ≡ length m)
size_is s m {r} {n} q g = let w = sent_is s m m max_message_size n (sym q ∙ g) in (w.1, w.3)

-- of the list s, whose message m has the size r: the answer where b is written of it
module _ (s m b o : List ℕ) {r : Result ℕ Refusal} (q : r ≡ sent s m m max_message_size) where
  pub write_refused : {v : Refusal} → r ≡ Err v → (Err v ≡ sent s m b (length o)) × (o ≡ sent_into s m b o)
  write_refused {v} g = go (broken s) (ltb max_message_size (length m)) (sym g ∙ q)
    where
      go : (x y : Bool) → Err v ≡ pick x (Err BrokenList) (pick y (Err MessageTooLong) (pick y (Err OutputTooShort) (Ok (length m))))
          → (Err v ≡ pick x (Err BrokenList) (pick y (Err MessageTooLong) (pick (ltb (length o) (length b)) (Err OutputTooShort) (Ok (length b)))))
          × (o ≡ pick x o (pick y o (pick (ltb (length o) (length b)) o (over b o))))
      go true y h = (h, refl)
      go false true h = (h, refl)
      go false false h = let c : ◌≡◌ {A = ℕ} 0 1 = cc in absurd (omega arith)

  module _ {n : ℕ} (g : r ≡ Ok n) where
    tests : (broken s ≡ false) × (ltb max_message_size (length m) ≡ false)
    tests = let w = sent_is s m m max_message_size n (sym q ∙ g) in (w.0, le-ltb max_message_size (length m) w.1)

    pub write_short : length o < length b → (Err OutputTooShort ≡ sent s m b (length o)) × (o ≡ sent_into s m b o)
    write_short l = let t = lt-ltb (length o) (length b) l in (rw (tests.0, tests.1, t), rw (tests.0, tests.1, t))

    pub write_done : length b ≤ length o → {l : ℕ} {w : List ℕ} → l ≡ length b → w ≡ sets o 0 b → (Ok l ≡ sent s m b (length o)) × (w ≡ sent_into s m b o)
    write_done h c j = let t = le-ltb (length o) (length b) h in (rw (tests.0, tests.1, t, c), j ∙ sets_front o b h ∙ sym (rw (tests.0, tests.1, t)))

-- a frame's length and message, one behind the other
pub frame_adds : (m : List ℕ) {q p : ℕ} → q ≡ length m → p ≡ length (encoded q) → p + q ≡ length (framed m)
frame_adds m {q} {p} a c = let n : p ≡ length (encoded (length m)) = c ∙ ap (λ (z : ℕ). length (encoded z)) a in omega (arith, length-append (encoded (length m)) m)

-- a frame's length and message, stored one after the other
pub frame_stored : (o m : List ℕ) {q p : ℕ} {x y : List ℕ} → q ≡ length m → p ≡ length (encoded q) → x ≡ sets o 0 (encoded q) → y ≡ sets x p m
    → y ≡ sets o 0 (framed m)
frame_stored o m {q} {p} a c i j =
    let n : p ≡ 0 + length (encoded (length m)) = c ∙ ap (λ (z : ℕ). length (encoded z)) a ∙ omega arith in
    parts_stored o 0 (encoded (length m)) m n (i ∙ ap (λ (z : ℕ). sets o 0 (encoded z)) a) j
