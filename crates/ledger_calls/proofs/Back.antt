-- Words and bytes are read back as what they were written for. Assumes nothing.
use mathlib.Core.Path.{◌≡◌, refl}
use Prim.Native.Nat.{ℕ, ◌+◌, ◌*◌, ◌/◌, ◌%◌, ◌^◌}
use native.Mathlib.Omega.{arith}
use Rattle.std.specs.Prelude.{None, Option, Some}
use Rattle.path.specs.declared.DialPurpose.{DialPurpose}
use Rattle.path.specs.declared.DialPurpose.TheVariants.{Relay, Punch, Probe, Reserve}
use Rattle.path.specs.declared.Path.{Path}
use Rattle.path.specs.declared.Path.TheVariants.{Relayed, Punched, Direct}
use Rattle.path.specs.declared.Owner.{Owner}
use Rattle.path.specs.declared.Owner.TheVariants.{Attempt, Inbound}
use Rattle.ledger_calls.specs.Values.{purpose_of, purpose_words, path_of, path_words, owner_of, owner_words}
use Rattle.ledger_calls.specs.Records.{half, number, octets}

pub purpose_back : (p : DialPurpose) → purpose_of (purpose_words p).word (purpose_words p).of (purpose_words p).relay ≡ p
unfolding purpose_of purpose_words
purpose_back (Relay id relay) = refl
purpose_back (Punch id) = refl
purpose_back (Probe peer) = refl
purpose_back (Reserve peer) = refl

pub path_back : (p : Path) → path_of (path_words p).word (path_words p).relay ≡ p
unfolding path_of path_words
path_back (Relayed relay) = refl
path_back Punched = refl
path_back Direct = refl

pub owner_back : (o : Option Owner) → owner_of (owner_words o).word (owner_words o).id ≡ o
unfolding owner_of owner_words
owner_back (Some (Attempt id)) = refl
owner_back (Some Inbound) = refl
owner_back None = refl

-- digits to the base 256, each behind the number of those before it
behind_each : (v a b c d e f g h i j k l m n : ℕ) → a * 256 + h ≡ b → b * 256 + i ≡ c → c * 256 + j ≡ d → d * 256 + k ≡ e → e * 256 + l ≡ f → f * 256 + m ≡ g
    → g * 256 + n ≡ v → (((a * 256 + h) * 256 + i) * 256 + j) * 2 ^ 32 + (((k * 256 + l) * 256 + m) * 256 + n) ≡ v
behind_each v a b c d e f g h i j k l m n p q r s t u w = omega arith

pub number_back : (v : ℕ) → number (octets v) 0 ≡ v
unfolding half octets
number_back v =
    behind_each v (v / 2 ^ 56) (v / 2 ^ 48) (v / 2 ^ 40) (v / 2 ^ 32) (v / 2 ^ 24) (v / 2 ^ 16) (v / 256)
    (v / 2 ^ 48 % 256) (v / 2 ^ 40 % 256) (v / 2 ^ 32 % 256) (v / 2 ^ 24 % 256) (v / 2 ^ 16 % 256) (v / 256 % 256) (v % 256)
    (omega arith) (omega arith) (omega arith) (omega arith) (omega arith) (omega arith) (omega arith)
