-- The words that an output is printed from stand for its values. Assumes nothing.
use mathlib.Core.Path.{◌≡◌}
use mathlib.Core.List.{List, [], ◌∷◌}
use Prim.Native.Nat.{ℕ, ◌-◌}
use native.Mathlib.Omega.{arith}
use lib.ListN.{length}
use lib.Seq.{take_all}
use Rattle.forms.specs.Forms.{kind_of}
use Rattle.forms.specs.Texts.{number, bytes, text, value_in, values_from, values_in, part}
use Rattle.journal_prints.specs.Forms.{send_form}

-- the words of a send are the message's whole
pub send_text : (message : List ℕ) (n a b : ℕ) → text send_form (number n ∷ number a ∷ number b ∷ bytes message ∷ []) ≡ text send_form (values_in message send_form (n ∷ a ∷ b ∷ 0 ∷ length message ∷ []))
unfolding values_in values_from value_in kind_of
send_text message n a b = let z : part message 0 (length message) ≡ message = take_all (length message - 0) message (omega arith) in rw z
