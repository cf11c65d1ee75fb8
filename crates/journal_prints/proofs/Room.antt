-- How much room an output takes. Assumes nothing.
use mathlib.Core.Path.{◌≡◌, refl}
use mathlib.Core.List.{List, [], ◌∷◌, ◌++◌}
use mathlib.Core.Bool.{Bool, true, false}
use Prim.Native.Nat.{ℕ, zero, suc, ◌+◌, ◌*◌, ◌≤◌}
use native.Mathlib.Omega.{arith}
use lib.Dec.{eqb}
use lib.ListN.{length, take, drop, length-append, length-take, length-drop}
use Rattle.std.specs.Prelude.{None, Option, Some}
use Rattle.prelude.specs.Choice.{pick}
use Rattle.prelude.specs.Numbers.{max_u64}
use Rattle.text.specs.Hexadecimal.{hexadecimal}
use Rattle.text.specs.Words.{length_before}
use Rattle.text.proofs.Printing.{fits, hexadecimal_length}
use Rattle.forms.specs.Forms.{kind_of, split, on_first}
use Rattle.forms.specs.Texts.{number, bytes, word, text, kind_of_value}
use Rattle.forms.specs.Room.{longest, room_from, room_of, KindsFrom, AllAtMost}
use Rattle.forms.proofs.Room.{text_short}
use Rattle.wire.specs.Lists.{size_at, opens, along, entries}
use Rattle.wire.proofs.EntryByEntry.{opens_long}
use Rattle.refusal.specs.Number.{number_of}
use Rattle.refusal.specs.declared.Refusal.{Refusal}
use Rattle.path.specs.declared.Owner.{Owner}
use Rattle.journal_prints.specs.Outputs.{with_commas, targets_text, path_place, no_path, owned_text}
use Rattle.journal_prints.specs.Forms.{none_form, path_form, burst_form, upgrade_form, close_form, send_form, reset_form, open_form, owned_form, named_form, refused_form}
use Rattle.journal_prints.specs.Room.{message_most, list_most, room, OwnerFits, Output, is_none, is_path, is_open, is_send, is_reset, is_burst, is_close, is_upgrade, is_attributed, is_unattributed, is_refused, Whole}
use Rattle.refusal.specs.declared.Refusal.TheVariants as refusal
use Rattle.path.specs.declared.Owner.TheVariants as owner_of

-- an address's two length bytes are more than its comma
others_most : (k : ℕ) (s : List ℕ) → length (with_commas (along [] [] (λ a xs. a ∷ xs) k s)) ≤ 2 * length s
unfolding along with_commas
others_most zero s = omega arith
others_most (suc k) s = by_test (eqb (length s) 0) (opens s) refl (along [] [] (λ a xs. a ∷ xs) k (drop (2 + size_at s) s)) (others_most k (drop (2 + size_at s) s))
  where
    by_test : (p q : Bool) → opens s ≡ q → (rest : List (List ℕ)) → length (with_commas rest) ≤ 2 * length (drop (2 + size_at s) s)
        → length (with_commas (pick p [] (pick q (take (size_at s) (drop 2 s) ∷ rest) []))) ≤ 2 * length s
    by_test true q o rest h = omega arith
    by_test false false o rest h = omega arith
    by_test false true o rest h =
        omega (
          arith,
          length-append (hexadecimal (take (size_at s) (drop 2 s))) (with_commas rest),
          hexadecimal_length (take (size_at s) (drop 2 s)),
          length-take (size_at s) (drop 2 s),
          length-drop 2 s,
          length-drop (2 + size_at s) s,
          opens_long s o,
        )

targets_most : (xs : List (List ℕ)) → length (targets_text xs) ≤ length (with_commas xs)
unfolding targets_text with_commas
targets_most [] = omega arith
targets_most (a ∷ xs) = omega (arith, length-append (hexadecimal a) (with_commas xs), length-append (44 ∷ hexadecimal a) (with_commas xs))

list_most_lem : (s : List ℕ) → length s ≤ list_most → length (targets_text (entries s)) ≤ 2 * list_most
list_most_lem s h = omega (arith, targets_most (entries s), others_most (length s) s)

refusal_most : (why : Refusal) → number_of why ≤ max_u64
refusal_most refusal.ReplyBufferTooShort = omega arith
refusal_most refusal.OfferInUse = omega arith
refusal_most refusal.HandshakeTooLate = omega arith
refusal_most refusal.LedgerFull = omega arith
refusal_most refusal.BrokenList = omega arith
refusal_most refusal.MessageTooLong = omega arith
refusal_most refusal.OutputTooShort = omega arith
refusal_most refusal.Malformed = omega arith
refusal_most refusal.NoType = omega arith
refusal_most refusal.WrongType = omega arith
refusal_most refusal.UnknownLine = omega arith
refusal_most refusal.NotStarted = omega arith

-- ---- an output's length

none_room : room_of message_most none_form ≡ 31
unfolding room_from kind_of longest split on_first length_before
none_room = refl

none_short : (n : ℕ) → n ≤ max_u64 → length (text none_form (number n ∷ [])) ≤ 31
unfolding KindsFrom kind_of kind_of_value AllAtMost
none_short n h0 = omega (arith, none_room, text_short message_most none_form (number n ∷ []) (refl, tt) (h0, tt))

path_room : room_of message_most path_form ≡ 110
unfolding room_from kind_of longest split on_first length_before
path_room = refl

path_short : (n : ℕ) (a : ℕ) (b : ℕ) (c : ℕ) → n ≤ max_u64 → a ≤ max_u64 → b ≤ max_u64 → c ≤ max_u64 → length (text path_form (number n ∷ number a ∷ number b ∷ number c ∷ [])) ≤ 110
unfolding KindsFrom kind_of kind_of_value AllAtMost
path_short n a b c h0 h1 h2 h3 = omega (arith, path_room, text_short message_most path_form (number n ∷ number a ∷ number b ∷ number c ∷ []) (refl, (refl, (refl, (refl, tt)))) (h0, (h1, (h2, (h3, tt)))))

burst_room : room_of message_most burst_form ≡ 96
unfolding room_from kind_of longest split on_first length_before
burst_room = refl

burst_short : (n : ℕ) (a : ℕ) (b : ℕ) → n ≤ max_u64 → a ≤ max_u64 → b ≤ max_u64 → length (text burst_form (number n ∷ number a ∷ number b ∷ [])) ≤ 96
unfolding KindsFrom kind_of kind_of_value AllAtMost
burst_short n a b h0 h1 h2 = omega (arith, burst_room, text_short message_most burst_form (number n ∷ number a ∷ number b ∷ []) (refl, (refl, (refl, tt))) (h0, (h1, (h2, tt))))

upgrade_room : room_of message_most upgrade_form ≡ 110
unfolding room_from kind_of longest split on_first length_before
upgrade_room = refl

upgrade_short : (n : ℕ) (a : ℕ) (b : ℕ) (c : ℕ) → n ≤ max_u64 → a ≤ max_u64 → b ≤ max_u64 → c ≤ max_u64 → length (text upgrade_form (number n ∷ number a ∷ number b ∷ number c ∷ [])) ≤ 110
unfolding KindsFrom kind_of kind_of_value AllAtMost
upgrade_short n a b c h0 h1 h2 h3 = omega (arith, upgrade_room, text_short message_most upgrade_form (number n ∷ number a ∷ number b ∷ number c ∷ []) (refl, (refl, (refl, (refl, tt)))) (h0, (h1, (h2, (h3, tt)))))

close_room : room_of message_most close_form ≡ 58
unfolding room_from kind_of longest split on_first length_before
close_room = refl

close_short : (n : ℕ) (a : ℕ) → n ≤ max_u64 → a ≤ max_u64 → length (text close_form (number n ∷ number a ∷ [])) ≤ 58
unfolding KindsFrom kind_of kind_of_value AllAtMost
close_short n a h0 h1 = omega (arith, close_room, text_short message_most close_form (number n ∷ number a ∷ []) (refl, (refl, tt)) (h0, (h1, tt)))

send_room : room_of message_most send_form ≡ 2500
unfolding room_from kind_of longest split on_first length_before
send_room = refl

send_short : (n : ℕ) (a : ℕ) (b : ℕ) (s : List ℕ) → n ≤ max_u64 → a ≤ max_u64 → b ≤ max_u64 → length s ≤ message_most → length (text send_form (number n ∷ number a ∷ number b ∷ bytes s ∷ [])) ≤ 2500
unfolding KindsFrom kind_of kind_of_value AllAtMost
send_short n a b s h0 h1 h2 h3 = omega (arith, send_room, text_short message_most send_form (number n ∷ number a ∷ number b ∷ bytes s ∷ []) (refl, (refl, (refl, (refl, tt)))) (h0, (h1, (h2, (h3, tt)))))

reset_room : room_of message_most reset_form ≡ 86
unfolding room_from kind_of longest split on_first length_before
reset_room = refl

reset_short : (n : ℕ) (a : ℕ) (b : ℕ) → n ≤ max_u64 → a ≤ max_u64 → b ≤ max_u64 → length (text reset_form (number n ∷ number a ∷ number b ∷ [])) ≤ 86
unfolding KindsFrom kind_of kind_of_value AllAtMost
reset_short n a b h0 h1 h2 = omega (arith, reset_room, text_short message_most reset_form (number n ∷ number a ∷ number b ∷ []) (refl, (refl, (refl, tt))) (h0, (h1, (h2, tt))))

open_room : room_of message_most open_form ≡ 85
unfolding room_from kind_of longest split on_first length_before
open_room = refl

open_short : (n : ℕ) (a : ℕ) (b : ℕ) → n ≤ max_u64 → a ≤ max_u64 → b ≤ max_u64 → length (text open_form (number n ∷ number a ∷ number b ∷ [])) ≤ 85
unfolding KindsFrom kind_of kind_of_value AllAtMost
open_short n a b h0 h1 h2 = omega (arith, open_room, text_short message_most open_form (number n ∷ number a ∷ number b ∷ []) (refl, (refl, (refl, tt))) (h0, (h1, (h2, tt))))

owned_room : room_of message_most owned_form ≡ 77
unfolding room_from kind_of longest split on_first length_before
owned_room = refl

owned_short : (n : ℕ) (a : ℕ) (b : ℕ) → n ≤ max_u64 → b ≤ max_u64 → length (text owned_form (number n ∷ word a ∷ number b ∷ [])) ≤ 77
unfolding KindsFrom kind_of kind_of_value AllAtMost
owned_short n a b h0 h2 = omega (arith, owned_room, text_short message_most owned_form (number n ∷ word a ∷ number b ∷ []) (refl, (refl, (refl, tt))) (h0, (tt, (h2, tt))))

named_room : room_of message_most named_form ≡ 64
unfolding room_from kind_of longest split on_first length_before
named_room = refl

named_short : (n : ℕ) (a : ℕ) (b : ℕ) → n ≤ max_u64 → length (text named_form (number n ∷ word a ∷ word b ∷ [])) ≤ 64
unfolding KindsFrom kind_of kind_of_value AllAtMost
named_short n a b h0 = omega (arith, named_room, text_short message_most named_form (number n ∷ word a ∷ word b ∷ []) (refl, (refl, (refl, tt))) (h0, (tt, (tt, tt))))

refused_room : room_of message_most refused_form ≡ 59
unfolding room_from kind_of longest split on_first length_before
refused_room = refl

refused_short : (n : ℕ) (a : ℕ) → n ≤ max_u64 → a ≤ max_u64 → length (text refused_form (number n ∷ number a ∷ [])) ≤ 59
unfolding KindsFrom kind_of kind_of_value AllAtMost
refused_short n a h0 h1 = omega (arith, refused_room, text_short message_most refused_form (number n ∷ number a ∷ []) (refl, (refl, tt)) (h0, (h1, tt)))

owner_short : (n place : ℕ) (o : Option Owner) → n ≤ max_u64 → OwnerFits o → length (owned_text n place o) ≤ room
owner_short n place (Some (owner_of.Attempt id)) h f = simp length-append (omega (arith, owned_short n place id.0 h (f id refl)))
owner_short n place (Some owner_of.Inbound) h f = simp length-append (omega (arith, named_short n place 0 h))
owner_short n place None h f = simp length-append (omega (arith, named_short n place 1 h))

no_owner : OwnerFits None
no_owner id e = let z : ◌≡◌ {A = ℕ} 0 1 = cc in absurd (omega arith)

pub short : {t : List ℕ} → Output t → length t ≤ room
short (is_none n h) = simp length-append (omega (arith, none_short n h))
short (is_path n peer relay conn h i j k) = simp length-append (omega (arith, path_short n peer.0 relay.0 conn.0 h i j k))
short (is_open n conn stream h i j) = simp length-append (omega (arith, open_short n conn.0 stream.0 h i j))
short (is_send n conn stream message h i j k) = simp length-append (omega (arith, send_short n conn.0 stream.0 message h i j k))
short (is_reset n conn stream h i j) = simp length-append (omega (arith, reset_short n conn.0 stream.0 h i j))
short (is_burst n times payload targets h i j k) = simp length-append (omega (arith, burst_short n times payload h i j, list_most_lem targets k))
short (is_close n conn h i) = simp length-append (omega (arith, close_short n conn.0 h i))
short (is_upgrade n peer old new h i j k) = simp length-append (omega (arith, upgrade_short n peer.0 old.0 new.0 h i j k))
short (is_attributed n a h i) = owner_short n (path_place a.path) a.owner h i
short (is_unattributed n h) = owner_short n no_path None h no_owner
short (is_refused n why h) = simp length-append (omega (arith, refused_short n (number_of why) h (refusal_most why)))

pub four_whole : (buffer a b c d : List ℕ) → 4 * room ≤ length buffer → Output a → Output b → Output c → Output d → Whole buffer a b c d
four_whole buffer a b c d h i j k l =
    fits buffer (a ++ b ++ c ++ d)
    (simp length-append (omega (arith, short i, short j, short k, short l)))
