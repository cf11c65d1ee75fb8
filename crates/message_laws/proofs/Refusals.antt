-- A message that is refused leaves the output as it was. Assumes nothing.
use mathlib.Core.Path.{◌≡◌, refl}
use mathlib.Core.Bool.{Bool, true, false}
use mathlib.Core.List.{List}
use Prim.Native.Nat.{ℕ}
use native.Mathlib.Omega.{arith}
use lib.Dec.{ltb}
use lib.ListN.{length}
use Rattle.std.specs.Prelude.{Err, Ok, Result, ℕ}
use Rattle.prelude.specs.Choice.{pick}
use Rattle.refusal.specs.declared.Refusal.{Refusal}
use Rattle.refusal.specs.declared.Refusal.TheVariants.{BrokenList, MessageTooLong, OutputTooShort}
use Rattle.wire.specs.Frame.{max_message_size}
use Rattle.wire.specs.Lists.{broken, listed, entries}
use Rattle.message.specs.Message.{Content, says, refused, content_of, kind_of, over, answered, decode_of, filled, decode_into}
use Rattle.message.specs.Encoding.{message_bytes, frame_bytes, sent, sent_into, encode_of, encode_into, frame_encode_of, frame_encode_into}
use Rattle.message.specs.declared.Kind.{Kind}

pub read_kept : (m out : List ℕ) (why : Refusal) → decode_of m (length out) ≡ Err why → decode_into m out ≡ out
unfolding decode_of decode_into
read_kept m out why = go (ltb max_message_size (length m)) (content_of m)
  where
    room : (n : ℕ) (k : ℕ) (new : List ℕ) (t : Bool) → pick {A = Result (Kind × ℕ) Refusal} t (Err OutputTooShort) (Ok (kind_of k, n)) ≡ Err why → pick t out (over new out) ≡ out
    room n k new true f = refl
    room n k new false f = let z : ◌≡◌ {A = ℕ} 0 1 = cc in absurd (omega arith)

    go : (t : Bool) (x : Content) → pick t (Err MessageTooLong) (answered (length out) x) ≡ Err why → pick t out (filled out x) ≡ out
    go true x f = refl
    go false (says k xs) f = room (length (listed xs)) k (listed xs) (ltb (length out) (length (listed xs))) f
    go false (refused w) f = refl

sent_kept : (s m b out : List ℕ) (why : Refusal) → sent s m b (length out) ≡ Err why → sent_into s m b out ≡ out
sent_kept s m b out why = go (broken s) (ltb max_message_size (length m)) (ltb (length out) (length b))
  where
    go : (t u v : Bool)
        → pick t (Err BrokenList) (pick u (Err MessageTooLong) (pick v (Err OutputTooShort) (Ok (length b)))) ≡ Err why
        → pick t out (pick u out (pick v out (over b out))) ≡ out
    go true u v f = refl
    go false true v f = refl
    go false false true f = refl
    go false false false f = let z : ◌≡◌ {A = ℕ} 0 1 = cc in absurd (omega arith)

pub written_kept : (k : Kind) (s out : List ℕ) (why : Refusal) → encode_of k s (length out) ≡ Err why → encode_into k s out ≡ out
unfolding encode_of encode_into
written_kept k s out = sent_kept s (message_bytes k (entries s)) (message_bytes k (entries s)) out

pub framed_kept : (k : Kind) (s out : List ℕ) (why : Refusal) → frame_encode_of k s (length out) ≡ Err why → frame_encode_into k s out ≡ out
unfolding frame_encode_of frame_encode_into
framed_kept k s out = sent_kept s (message_bytes k (entries s)) (frame_bytes k (entries s)) out
