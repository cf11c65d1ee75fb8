-- Messages read (RULES.md, section 3).
use Rattle.std.specs.Prelude.{◌≡◌, ℕ, zero, suc, ◌+◌, List, [], ◌∷◌, ◌++◌, Bool, true, false, length, take, drop, ltb, eqb, Err, None, Ok, Option, Result, Some}
use Rattle.prelude.specs.Choice.{pick, either}
use Rattle.refusal.specs.declared.Refusal.{Refusal}
use Rattle.refusal.specs.declared.Refusal.TheVariants.{MessageTooLong, OutputTooShort, Malformed, NoType, WrongType}
use Rattle.wire.specs.Frame.{max_message_size}
use Rattle.wire.specs.Lists.{listed}
use Rattle.protobuf.specs.Fields.{field_of}
use Rattle.protobuf.specs.declared.Field.{Field}
use Rattle.protobuf.specs.declared.Field.TheVariants as f
use Rattle.message.specs.declared.Kind.{Kind}
use Rattle.message.specs.declared.Kind.TheVariants.{Connect, Sync}

-- the number of each type
abbrev pub type_number : Kind → ℕ
type_number Connect = 100
type_number Sync = 300

abbrev pub known : ℕ → Bool
known v = either (eqb v (type_number Connect)) (eqb v (type_number Sync))

abbrev pub kind_of : ℕ → Kind
kind_of v = pick (eqb v (type_number Connect)) Connect Sync

-- the type with a number
abbrev pub kind_read : ℕ → Result Kind Refusal
kind_read v = pick (known v) (Ok (kind_of v)) (Err WrongType)

abbrev pub Numbers : ℕ → Result Kind Refusal → Type 0
Numbers v r = r ≡ kind_read v

-- what a message says: the number of its type, and its addresses; or why it is refused
pub data Content : Type 0 where
  says : ℕ → List (List ℕ) → Content
  refused : Refusal → Content

-- one address before the others
abbrev pub also : List ℕ → Content → Content
also a (says k xs) = says k (a ∷ xs)
also a (refused w) = refused w

-- at the end, where the type k was met last and 0 stands for none
abbrev pub ended : ℕ → Content
ended k = pick (eqb k 0) (refused NoType) (says k [])

-- a field, and what follows it: a wrong type is refused where it is met, and so is a malformed field
abbrev pub step : (ℕ → List ℕ → Content) → ℕ → List ℕ → Option Field → Content
step next k s (Some (f.Typed v n)) = pick (known v) (next v (drop n s)) (refused WrongType)
step next k s (Some (f.Address b n)) = also (take n (drop b s)) (next k (drop (b + n) s))
step next k s (Some (f.Other n)) = next k (drop n s)
step next k s None = refused Malformed

-- field after field, at most n of them, where the type k was met last
unfoldable pub scan : ℕ → ℕ → List ℕ → Content
scan zero k s = ended k
scan (suc n) k s = pick (eqb (length s) 0) (ended k) (step (scan n) k s (field_of s))

-- there are never more fields than bytes
abbrev pub content_of : List ℕ → Content
content_of s = scan (length s) 0 s

abbrev pub accepted : Content → Bool
accepted (says k xs) = true
accepted (refused w) = false

abbrev pub addresses : Content → List (List ℕ)
addresses (says k xs) = xs
addresses (refused w) = []

-- bytes from the front of a buffer on; its other bytes stay
abbrev pub over : List ℕ → List ℕ → List ℕ
over new out = new ++ drop (length new) out

-- the type, and how long the list of addresses is: the answer, where there is room enough for the list
abbrev pub with_room : Content → Result (Kind × ℕ) Refusal
with_room (says k xs) = Ok (kind_of k, length (listed xs))
with_room (refused w) = Err w

-- the answer, where there is so much room
abbrev pub answered : ℕ → Content → Result (Kind × ℕ) Refusal
answered room (says k xs) = pick (ltb room (length (listed xs))) (Err OutputTooShort) (Ok (kind_of k, length (listed xs)))
answered room (refused w) = Err w

unfoldable pub decode_of : List ℕ → ℕ → Result (Kind × ℕ) Refusal
decode_of s room = pick (ltb max_message_size (length s)) (Err MessageTooLong) (answered room (content_of s))

-- the buffer after it
abbrev pub filled : List ℕ → Content → List ℕ
filled out (says k xs) = pick (ltb (length out) (length (listed xs))) out (over (listed xs) out)
filled out (refused w) = out

unfoldable pub decode_into : List ℕ → List ℕ → List ℕ
decode_into s out = pick (ltb max_message_size (length s)) out (filled out (content_of s))
