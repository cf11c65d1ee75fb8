-- What peeking at a reply answers, by what its bytes bring; the targets among its addresses.
-- Assumes nothing.
use mathlib.Core.Path.{◌≡◌, refl, sym, ◌∙◌, ap, subst}
use mathlib.Core.Bool.{Bool, true, false}
use mathlib.Core.List.{List, [], ◌∷◌, ◌++◌}
use Prim.Native.Nat.{ℕ, ◌≤◌, ◌<◌}
use native.Mathlib.Omega.{arith}
use borrow.Author.Tests.{le-ltb, ltb-false}
use lib.Dec.{ltb, eqb}
use lib.ListN.{length, take, drop, length-take, length-replicate, length-append, length-drop}
use lib.Seq.{take-append_seam}
use Rattle.std.specs.Prelude.{None, Ok, Option, Some}
use Rattle.prelude.specs.Choice.{pick}
use Rattle.wire.specs.Lists.{entries, listed}
use Rattle.wire.specs.Frame.{max_message_size}
use Rattle.wire.specs.declared.Frame.{Frame}
use Rattle.wire.specs.declared.Frame.TheVariants.{More, Whole, Broken}
use Rattle.wire.proofs.Frames.{Within}
use Rattle.wire.proofs.Listed.{All, read_back, unbroken}
use Rattle.message.specs.Message.{Content, says, refused, content_of, addresses, type_number, with_room, filled, decode_into}
use Rattle.message.specs.declared.Kind.TheVariants.{Connect, Sync}
use Rattle.message.proofs.Answers.{room_enough}
use Rattle.message.proofs.Scan.{list_long, listed_more}
use Rattle.frames.specs.Gathering.{gathered, gathered_into}
use Rattle.initiator.specs.Replies.{replied, message_at, reply_from, list_from, reply_of, reply_into}
use Rattle.initiator.specs.declared.Reply.{Reply}
use Rattle.initiator.specs.declared.Reply.TheVariants as r
use Rattle.frames.proofs.Gathers.{gathers_front}
use Rattle.candidates.specs.Selection.{Chosen}
use Rattle.candidates.proofs.Answers.{answer_kept}
use Rattle.candidates.specs.Selection.{held_terms, selected, packed}
use Rattle.candidates.specs.declared.Terms.{Terms}
use Rattle.lent.specs.Brought.{Brought, unfinished, failed, connect, from_content, from_frame, brought_by}
use Rattle.lent.specs.Replies.{no_list, chosen_in, chosen_from, targets_from, peeked_of}
use Rattle.inputs.specs.declared.Heard.TheVariants as heard

-- ---- the reply

abbrev reply_for : Brought → Option Reply
reply_for (unfinished n) = Some (r.More n)
reply_for failed = None
reply_for (connect xs) = Some (r.Connect (length (listed xs)))

by_content : (x : Content) → replied (with_room x) ≡ reply_for (from_content x)
by_content (refused w) = refl
by_content (says k xs) = go (eqb k (type_number Connect))
  where
    go : (t : Bool) → replied (Ok (pick t Connect Sync, length (listed xs))) ≡ reply_for (pick t (connect xs) failed)
    go true = refl
    go false = refl

message_long : (start len : ℕ) (b : List ℕ) → len ≤ max_message_size → length (message_at start len b) ≤ max_message_size
message_long start len b h = simp length-take (omega arith)

peeked : (xs b : List ℕ) (n : ℕ) → reply_of xs b n 4096 ≡ reply_for (brought_by xs b n)
unfolding reply_of brought_by
peeked xs b n = go (gathered xs b n).frame (gathers_front xs b n).whole
  where
    go : (f : Frame) → Within (length b) f
        → reply_from f (gathered xs b n).count (gathered_into xs b n) 4096 ≡ reply_for (from_frame f (gathered xs b n).count (gathered_into xs b n))
    go More w = refl
    go Broken w = refl
    go (Whole start len) w =
        let m : List ℕ = message_at start len (gathered_into xs b n) in
        let l : length (message_at start len (gathered_into xs b n)) ≤ max_message_size = message_long start len (gathered_into xs b n) w.2 in
        ap replied (room_enough m 4096 l l) ∙ by_content (content_of m)

no_room : length no_list ≡ 4096
unfolding no_list
no_room = length-replicate {A = ℕ} 4096 0

-- of the reply that a room of a whole message gives
module _ (xs b : List ℕ) (n : ℕ) {a : Option Reply} (e : a ≡ reply_of xs b n (length no_list)) where
  at_room : a ≡ reply_for (brought_by xs b n)
  at_room = e ∙ ap (reply_of xs b n) no_room ∙ peeked xs b n

  pub brings_more : {k : ℕ} → a ≡ Some (r.More k) → brought_by xs b n ≡ unfinished k
  brings_more {k} g = go (brought_by xs b n) (sym at_room ∙ g)
    where
      go : (x : Brought) → reply_for x ≡ Some (r.More k) → x ≡ unfinished k
      go (unfinished m) h = cc
      go failed h = absurd (let z : ◌≡◌ {A = ℕ} 0 1 = cc in omega arith)
      go (connect those) h = absurd (let z : ◌≡◌ {A = ℕ} 0 1 = cc in omega arith)

  pub brings_nothing : a ≡ None → brought_by xs b n ≡ failed
  brings_nothing g = go (brought_by xs b n) (sym at_room ∙ g)
    where
      go : (x : Brought) → reply_for x ≡ None → x ≡ failed
      go (unfinished m) h = absurd (let z : ◌≡◌ {A = ℕ} 0 1 = cc in omega arith)
      go failed h = refl
      go (connect those) h = absurd (let z : ◌≡◌ {A = ℕ} 0 1 = cc in omega arith)

  pub brings_connect : {k : ℕ} → a ≡ Some (r.Connect k) → (those : List (List ℕ)) × ((brought_by xs b n ≡ connect those) × (k ≡ length (listed those)))
  brings_connect {k} g = go (brought_by xs b n) (sym at_room ∙ g)
    where
      go : (x : Brought) → reply_for x ≡ Some (r.Connect k) → (those : List (List ℕ)) × ((x ≡ connect those) × (k ≡ length (listed those)))
      go (unfinished m) h = absurd (let z : ◌≡◌ {A = ℕ} 0 1 = cc in omega arith)
      go failed h = absurd (let z : ◌≡◌ {A = ℕ} 0 1 = cc in omega arith)
      go (connect those) h = (those, (refl, (cc)))

-- ---- its addresses

all_short : (those : List (List ℕ)) → length (listed those) < 65536 → All (λ a. length a < 65536) those
all_short [] h = tt
all_short (a ∷ those) h = (omega (arith, listed_more a those), all_short those (omega (arith, listed_more a those)))

-- a CONNECT of those, read into a room of a whole message
record Listing (those : List (List ℕ)) (o : List ℕ) : Type 0 where
  list : take (length (listed those)) o ≡ listed those
  short : All (λ a. length a < 65536) those
  within : length (listed those) ≤ 4096

from_content_lem : (x : Content) (those : List (List ℕ)) → length (listed (addresses x)) ≤ 4096 → from_content x ≡ connect those → Listing those (filled no_list x)
from_content_lem (refused w) those l h = absurd (let z : ◌≡◌ {A = ℕ} 0 1 = cc in omega arith)
from_content_lem (says k ys) those l h = go (eqb k (type_number Connect)) h
  where
    ones : ys ≡ those → Listing those (filled no_list (says k ys))
    ones e =
        subst (λ (zs : List (List ℕ)). Listing zs (filled no_list (says k ys))) e
        (record {
          list = rw (le-ltb (length no_list) (length (listed ys)) (omega (arith, no_room))) (take-append_seam (listed ys) (drop (length (listed ys)) no_list));
          short = all_short ys (omega arith);
          within = l;
        })

    go : (t : Bool) → pick t (connect ys) failed ≡ connect those → Listing those (filled no_list (says k ys))
    go true h = ones (cc)
    go false h = absurd (let z : ◌≡◌ {A = ℕ} 0 1 = cc in omega arith)

listing : (xs b : List ℕ) (n : ℕ) (those : List (List ℕ)) → brought_by xs b n ≡ connect those → Listing those (reply_into xs b n no_list)
unfolding reply_into brought_by decode_into
listing xs b n those = go (gathered xs b n).frame (gathers_front xs b n).whole
  where
    go : (f : Frame) → Within (length b) f → from_frame f (gathered xs b n).count (gathered_into xs b n) ≡ connect those
        → Listing those (list_from f (gathered_into xs b n) no_list)
    go More w h = absurd (let z : ◌≡◌ {A = ℕ} 0 1 = cc in omega arith)
    go Broken w h = absurd (let z : ◌≡◌ {A = ℕ} 0 1 = cc in omega arith)
    go (Whole start len) w h =
        let m : List ℕ = message_at start len (gathered_into xs b n) in
        let l : length (message_at start len (gathered_into xs b n)) ≤ max_message_size = message_long start len (gathered_into xs b n) w.2 in
        subst (λ (o : List ℕ). Listing those o) (sym (decoded m l))
        (from_content_lem (content_of m) those (omega (arith, list_long m)) h)
      where
        decoded : (m : List ℕ) → length m ≤ max_message_size → decode_into m no_list ≡ filled no_list (content_of m)
        decoded m l = rw (le-ltb max_message_size (length m) l)

-- the targets chosen from the list are those of the addresses
pub targets_are : (xs b : List ℕ) (n : ℕ) (terms : Terms) (those : List (List ℕ)) → brought_by xs b n ≡ connect those
    → {o : List ℕ} → o ≡ reply_into xs b n no_list → chosen_from terms (take (length (listed those)) o) ≡ targets_from terms those
unfolding chosen_from targets_from
targets_are xs b n terms those h {o} e =
    let w = listing xs b n those h in
    ap (chosen_from terms) (ap (take (length (listed those))) e ∙ w.list)
    ∙ ap chosen_in
    (sym (answer_kept (listed those) (selected (held_terms terms) (entries (listed those))) (sym (unbroken those w.short)) refl refl))
    ∙ ap (λ (ys : List (List ℕ)). packed (listed (selected (held_terms terms) ys))) (read_back those w.short)

-- the list is within the room
pub list_within : (xs b : List ℕ) (n : ℕ) (those : List (List ℕ)) → brought_by xs b n ≡ connect those → length (listed those) ≤ 4096
list_within xs b n those h = (listing xs b n those h).within

-- ---- what is peeked at

filled_long : (o : List ℕ) (x : Content) → length (filled o x) ≡ length o
filled_long o (refused w) = refl
filled_long o (says k ys) = go (ltb (length o) (length (listed ys))) refl
  where
    go : (t : Bool) → ltb (length o) (length (listed ys)) ≡ t → length (pick t o (listed ys ++ drop (length (listed ys)) o)) ≡ length o
    go true e = refl
    go false e = omega (arith, length-append (listed ys) (drop (length (listed ys)) o), length-drop (length (listed ys)) o, ltb-false (length o) (length (listed ys)) e)

long_into : (xs b : List ℕ) (n : ℕ) (o : List ℕ) → length (reply_into xs b n o) ≡ length o
unfolding reply_into decode_into
long_into xs b n o = go (gathered xs b n).frame
  where
    decoded : (m : List ℕ) → length (decode_into m o) ≡ length o
    decoded m = at (ltb max_message_size (length m))
      where
        at : (t : Bool) → length (pick t o (filled o (content_of m))) ≡ length o
        at true = refl
        at false = filled_long o (content_of m)

    go : (f : Frame) → length (list_from f (gathered_into xs b n) o) ≡ length o
    go More = refl
    go Broken = refl
    go (Whole start len) = decoded (message_at start len (gathered_into xs b n))

module _ (xs b : List ℕ) (n : ℕ) (terms : Terms) {a : Option Reply} {z o : List ℕ} (blank : z ≡ no_list) (e : a ≡ reply_of xs b n (length z))
    (f : o ≡ reply_into xs b n z) where
  at_blank : a ≡ reply_of xs b n (length no_list)
  at_blank = e ∙ ap (λ (l : List ℕ). reply_of xs b n (length l)) blank

  pub peek_more : {k : ℕ} {t : Chosen} → a ≡ Some (r.More k) → t ≡ packed [] → record { heard = heard.More k; targets = t } ≡ peeked_of terms (brought_by xs b n)
  unfolding peeked_of
  peek_more g h = rw (brings_more xs b n at_blank g, h)

  pub peek_failed : {t : Chosen} → a ≡ None → t ≡ packed [] → record { heard = heard.Failed; targets = t } ≡ peeked_of terms (brought_by xs b n)
  unfolding peeked_of
  peek_failed g h = rw (brings_nothing xs b n at_blank g, h)

  pub peek_within : {k : ℕ} → a ≡ Some (r.Connect k) → k ≤ 4096
  peek_within g = let w = brings_connect xs b n at_blank g in omega (arith, w.1.1, list_within xs b n w.0 w.1.0)

  -- what was read into has not become longer or shorter
  pub peek_long : length o ≡ 4096
  peek_long = ap length f ∙ into_long ∙ ap length blank ∙ no_room
    where
      into_long : length (reply_into xs b n z) ≡ length z
      into_long = long_into xs b n z

  pub peek_connect : {k : ℕ} {t : Chosen} → a ≡ Some (r.Connect k) → t ≡ chosen_from terms (take k o)
      → record { heard = heard.Connect t.len; targets = t } ≡ peeked_of terms (brought_by xs b n)
  unfolding peeked_of
  peek_connect {k} {t} g h =
      let w = brings_connect xs b n at_blank g in
      let i : o ≡ reply_into xs b n no_list = f ∙ ap (reply_into xs b n) blank in
      rw (w.1.0, h ∙ ap (λ (m : ℕ). chosen_from terms (take m o)) w.1.1 ∙ targets_are xs b n terms w.0 w.1.0 i)
