-- The reply read from a copy: the frame's bytes are those that the buffer would have.
-- Assumes nothing.
use mathlib.Core.Path.{◌≡◌, refl, sym, ap, subst, ◌∙◌}
use mathlib.Core.List.{List, [], ◌∷◌, ◌++◌}
use Prim.Native.Nat.{ℕ, zero, suc, ◌+◌, ◌-◌, ◌≤◌}
use native.Mathlib.Omega.{arith}
use lib.ListN.{length, take, drop, set, length-append, take-append-drop}
use lib.Seq.{sets, take-take, length-take-le}
use Rattle.std.specs.Prelude.{None, Option, Some, ℕ}
use Rattle.wire.specs.Frame.{max_frame_size}
use Rattle.wire.specs.declared.Frame.{Frame}
use Rattle.wire.proofs.Frames.{Within}
use Rattle.wire.proofs.Stores.{sets_out, sets_append, sets_front}
use Rattle.message.specs.Message.{decode_of, decode_into}
use Rattle.frames.specs.Gathering.{gathered}
use Rattle.initiator.specs.Replies.{replied, message_at, reply_of, reply_into}
use Rattle.frames.specs.declared.Gathered.{Gathered}
use Rattle.initiator.specs.declared.Reply.{Reply}
use Rattle.frames.proofs.Gathers.{gathers_front, stored_of}
use Rattle.wire.specs.declared.Frame.TheVariants as f
use Rattle.initiator.specs.declared.Reply.TheVariants as r

-- ---- the front of a buffer

-- storing in the front, and the front of what is stored
front_set : (m : ℕ) (o : List ℕ) (p x : ℕ) → take m (set o p x) ≡ set (take m o) p x
front_set zero o p x = refl
front_set (suc m) [] p x = refl
front_set (suc m) (y ∷ o) zero x = refl
front_set (suc m) (y ∷ o) (suc p) x = ap (λ (l : List ℕ). y ∷ l) (front_set m o p x)

front_sets : (m : ℕ) (o : List ℕ) (p : ℕ) (xs : List ℕ) → take m (sets o p xs) ≡ sets (take m o) p xs
front_sets m o p [] = refl
front_sets m o p (x ∷ xs) = front_sets m (set o p x) (suc p) xs ∙ ap (λ (l : List ℕ). sets l (suc p) xs) (front_set m o p x)

-- all of b stored from the front of z on, as far as there is room: their first m bytes are the same
copied_front : (m : ℕ) (z b : List ℕ) → m ≤ length z → m ≤ length b → take m (sets z 0 b) ≡ take m b
copied_front m z b h g =
    let l : length (take m b) ≡ m = length-take-le m b g in
    let k : length (take m z) ≡ m = length-take-le m z h in
    let o : length (sets (take m z) 0 (take m b)) ≤ 0 + length (take m b) = omega (arith, ap length (sets_front (take m z) (take m b) (omega arith)), length-append (take m b) (drop (length (take m b)) (take m z)), tail_none m z b l k) in
    front_sets m z 0 b
    ∙ ap (sets (take m z) 0) (sym (take-append-drop m b))
    ∙ sets_append (take m z) 0 (take m b) (drop m b)
    ∙ sets_out (sets (take m z) 0 (take m b)) (0 + length (take m b)) (drop m b) o
    ∙ sets_front (take m z) (take m b) (omega arith)
    ∙ whole_front m z b l k
  where
    no_tail : (s : List ℕ) (n : ℕ) → length s ≤ n → drop n s ≡ []
    no_tail [] zero h = refl
    no_tail [] (suc n) h = refl
    no_tail (x ∷ s) zero h = absurd (omega arith)
    no_tail (x ∷ s) (suc n) h = no_tail s n (omega arith)

    nothing_more : (s : List ℕ) → s ++ [] ≡ s
    nothing_more [] = refl
    nothing_more (x ∷ s) = ap (λ (l : List ℕ). x ∷ l) (nothing_more s)

    tail_none : (m : ℕ) (z b : List ℕ) → length (take m b) ≡ m → length (take m z) ≡ m → length (drop (length (take m b)) (take m z)) ≡ 0
    tail_none m z b l k = ap length (no_tail (take m z) (length (take m b)) (omega arith))

    whole_front : (m : ℕ) (z b : List ℕ) → length (take m b) ≡ m → length (take m z) ≡ m → take m b ++ drop (length (take m b)) (take m z) ≡ take m b
    whole_front m z b l k = ap (λ (t : List ℕ). take m b ++ t) (no_tail (take m z) (length (take m b)) (omega arith)) ∙ nothing_more (take m b)

-- the message in the first bytes
message_front : (start len : ℕ) (s : List ℕ) → message_at start len (take (start + len) s) ≡ message_at start len s
message_front zero len s = let e : 0 + len ≡ len = omega arith in rw e (take-take len len s (omega arith))
message_front (suc start) len [] = let e : suc start + len ≡ suc (start + len) = omega arith in rw e
message_front (suc start) len (x ∷ s) = let e : suc start + len ≡ suc (start + len) = omega arith in rw e (message_front start len s)

-- the message of the copy is the message of the buffer
pub message_copied : (z b xs : List ℕ) (n start len : ℕ) → start + len ≤ length z → start + len ≤ length b
    → message_at start len (sets (sets z 0 b) n xs) ≡ message_at start len (sets b n xs)
message_copied z b xs n start len h g =
    let m = start + len in
    let e : take m (sets (sets z 0 b) n xs) ≡ take m (sets b n xs) =
    front_sets m (sets z 0 b) n xs ∙ ap (λ (l : List ℕ). sets l n xs) (copied_front m z b h g) ∙ sym (front_sets m b n xs) in
    sym (message_front start len (sets (sets z 0 b) n xs)) ∙ ap (message_at start len) e ∙ message_front start len (sets b n xs)

-- ---- what was gathered

module _ (xs b : List ℕ) (n : ℕ) (o : List ℕ) {g : Gathered} (e : g ≡ gathered xs b n) where
  pub reply_more : g.frame ≡ f.More → (Some (r.More g.count) ≡ reply_of xs b n (length o)) × (o ≡ reply_into xs b n o)
  unfolding reply_of reply_into
  reply_more h = let q : (gathered xs b n).frame ≡ f.More = ap (λ (x : Gathered). x.frame) (sym e) ∙ h in (rw (q, e), rw q)

  pub reply_broken : g.frame ≡ f.Broken → (None ≡ reply_of xs b n (length o)) × (o ≡ reply_into xs b n o)
  unfolding reply_of reply_into
  reply_broken h = let q : (gathered xs b n).frame ≡ f.Broken = ap (λ (x : Gathered). x.frame) (sym e) ∙ h in (rw q, rw q)

  module _ {start len : ℕ} (h : g.frame ≡ f.Whole start len) where
    the_frame : (gathered xs b n).frame ≡ f.Whole start len
    the_frame = ap (λ (x : Gathered). x.frame) (sym e) ∙ h

    pub whole_inside : (start + len ≤ max_frame_size) × (start + len ≤ length b)
    whole_inside = let w = subst (λ (x : Frame). Within (length b) x) the_frame (gathers_front xs b n).whole in omega arith

    pub reply_whole : {a : Option Reply} {t : List ℕ} → a ≡ replied (decode_of (message_at start len (sets b n (take (g.count - n) xs))) (length o))
        → t ≡ decode_into (message_at start len (sets b n (take (g.count - n) xs))) o → (a ≡ reply_of xs b n (length o)) × (t ≡ reply_into xs b n o)
    unfolding reply_of reply_into
    reply_whole i j = (i ∙ rw (the_frame, stored_of xs b n e), j ∙ rw (the_frame, stored_of xs b n e))

-- ---- the copy read: z is blank, y holds the buffer, and w the new bytes too
pub read_copy : (z b xs : List ℕ) (n start len : ℕ) (o : List ℕ) {y w : List ℕ} → length z ≡ max_frame_size → start + len ≤ max_frame_size → start + len ≤ length b
    → y ≡ sets z 0 b → w ≡ sets y n xs → {a : Option Reply} {t : List ℕ} → a ≡ replied (decode_of (take (start + len - start) (drop start w)) (length o))
    → t ≡ decode_into (take (start + len - start) (drop start w)) o
    → (a ≡ replied (decode_of (message_at start len (sets b n xs)) (length o))) × (t ≡ decode_into (message_at start len (sets b n xs)) o)
read_copy z b xs n start len o {y} {w} l h g p q i j =
    let k : start + len - start ≡ len = omega arith in
    let c : sets y n xs ≡ sets (sets z 0 b) n xs = ap (λ (s : List ℕ). sets s n xs) p in
    let e : take (start + len - start) (drop start w) ≡ message_at start len (sets b n xs) =
    ap (λ (m : ℕ). take m (drop start w)) k ∙ ap (message_at start len) (q ∙ c) ∙ message_copied z b xs n start len (omega arith) g in
    (i ∙ ap (λ (s : List ℕ). replied (decode_of s (length o))) e, j ∙ ap (λ (s : List ℕ). decode_into s o) e)
