-- What is said of each call of `wire` and `message`. Assumes nothing.
use mathlib.Core.Path.{◌≡◌, refl, ap, ◌∙◌}
use mathlib.Core.List.{List, [], ◌∷◌, ◌++◌}
use Prim.Native.Nat.{ℕ, ◌+◌, ◌<◌, ◌≤◌}
use native.Mathlib.Omega.{arith}
use lib.ListN.{length, take, drop, length-replicate, length-take}
use lib.Seq.{sets, sets-eq}
use borrow.Author.Tests.{lt-ltb, le-ltb}
use Rattle.std.specs.Prelude.{Result, ℕ}
use Rattle.text.specs.Printed.{printed}
use Rattle.std.proofs.lemmas.List.{take-replicate}
use Rattle.wire.specs.Varint.{encoded}
use Rattle.message.specs.Message.{decode_of, decode_into}
use Rattle.message.specs.Encoding.{encode_of, encode_into}
use Rattle.message.specs.declared.Kind.{Kind}
use Rattle.call_table.specs.Tables.{none, says, shows, no_bytes}
use Rattle.library_calls.specs.Messages.{encode_said, filler, after, decoded_said, read_said, encoded_said, write_said}
use Rattle.refusal.specs.declared.Refusal.{Refusal}

pub encode_shown : (v : ℕ) {o x : List ℕ} {n : ℕ} → o ≡ no_bytes → x ≡ sets o 0 (encoded v) → n ≡ length (encoded v)
    → shows 1 (0 ∷ n ∷ 0 ∷ 0 ∷ 0 ∷ 0 ∷ []) x ≡ encode_said v
unfolding encode_said printed
encode_shown v e f g = rw (f, e, g)

pub filled_length : {b : List ℕ} → b ≡ filler 8192 → length b ≡ 8192
unfolding filler
filled_length e = ap length e ∙ length-replicate {A = ℕ} 8192 238

filled_part : (n : ℕ) {b : List ℕ} → b ≡ filler 8192 → n ≤ 8192 → take n b ≡ filler n
unfolding filler
filled_part n e h = rw e (take-replicate n 8192 238 h)

pub read_long : (m : List ℕ) (room : ℕ) → 8192 < room → says 3 none ≡ read_said m room
unfolding read_said
read_long m room h = rw (lt-ltb 8192 room h)

pub write_long : (kind : Kind) (m : List ℕ) (room : ℕ) → 8192 < room → says 3 none ≡ write_said kind m room
unfolding write_said
write_long kind m room h = rw (lt-ltb 8192 room h)

-- the first bytes of the buffer are what the call left of them
after_is : (room : ℕ) (t : List ℕ) {b : List ℕ} → room ≤ 8192 → length t ≡ room → b ≡ filler 8192 → t ++ drop room b ≡ after t
unfolding after printed
after_is room t h l e =
    let z : 0 + length t ≡ room = omega arith in
    let k : 0 + length t ≤ length (filler 8192) = omega (arith, filled_length {b = filler 8192} refl) in
    rw (e, sets-eq t (filler 8192) 0 k, z)

sized : (room : ℕ) {b : List ℕ} → room ≤ 8192 → b ≡ filler 8192 → length (take room b) ≡ room
sized room {b} h e = length-take room b ∙ (omega (arith, filled_length e))

module _ (m : List ℕ) (room : ℕ) {b x : List ℕ} (h : room ≤ 8192) (e : b ≡ filler 8192) (k : length x ≡ length (take room b)) where
  pub read_shown : {d : Result (Kind × ℕ) Refusal} → d ≡ decode_of m (length (take room b)) → x ≡ decode_into m (take room b) → decoded_said d room (x ++ drop room b) ≡ read_said m room
  unfolding read_said
  read_shown f g = rw (after_is room x h (k ∙ sized room h e) e, le-ltb 8192 room h, f, g, sized room h e, filled_part room e h)

  pub write_shown : (kind : Kind) {r : Result ℕ Refusal} → r ≡ encode_of kind m (length (take room b)) → x ≡ encode_into kind m (take room b) → encoded_said r room (x ++ drop room b) ≡ write_said kind m room
  unfolding write_said
  write_shown kind f g = rw (after_is room x h (k ∙ sized room h e) e, le-ltb 8192 room h, f, g, sized room h e, filled_part room e h)
