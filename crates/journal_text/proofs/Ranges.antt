-- Numbers of 64 bits bound the length of what is printed. Assumes nothing.
use mathlib.Core.Path.{◌≡◌, subst}
use mathlib.Core.List.{List}
use Prim.Native.Nat.{ℕ, ◌*◌, ◌≤◌}
use native.Mathlib.Omega.{arith}
use lib.ListN.{length}
use Rattle.std.specs.Prelude.{None, Option, Some}
use Rattle.prelude.specs.Numbers.{max_u64}
use Rattle.ids.specs.declared.ConnectId.{ConnectId}
use Rattle.refusal.specs.declared.Refusal.{Refusal}
use Rattle.path.specs.declared.Owner.{Owner}
use Rattle.path.specs.declared.Owner.TheVariants.{Attempt, Inbound}
use Rattle.path.specs.declared.Attribution.{Attribution}
use Rattle.journal_prints.specs.Outputs.{attributed_text}
use Rattle.journal_prints.specs.Room.{room, OwnerFits, is_attributed, is_unattributed, is_refused}
use Rattle.journal_prints.proofs.Room.{short}
use Rattle.journal_effects.specs.declared.Effects.{Effects}
use Rattle.journal_calls.specs.declared.Said.{Said}
use Rattle.journal_calls.specs.declared.Said.TheVariants.{Refused}
use Rattle.journal_text.specs.Texts.{said_text}

pub attempt_fits : {o : Option Owner} {w : Owner} {i : ConnectId} → o ≡ Some w → w ≡ Attempt i → i.0 ≤ max_u64 → OwnerFits o
attempt_fits {o} {w} {i} d e h id f = let z : i ≡ id = cc in subst (λ (k : ConnectId). k.0 ≤ max_u64) z h

pub inbound_fits : {o : Option Owner} {w : Owner} → o ≡ Some w → w ≡ Inbound → OwnerFits o
inbound_fits d e id f = let z : ◌≡◌ {A = ℕ} 0 1 = cc in absurd (omega arith)

pub none_fits : {o : Option Owner} → o ≡ None → OwnerFits o
none_fits e id f = let z : ◌≡◌ {A = ℕ} 0 1 = cc in absurd (omega arith)

four_fit : {n : ℕ} → n ≤ room → n ≤ 4 * room
four_fit h = omega (arith, h)

pub named_short : (n : ℕ) {f : Option Attribution} {a : Attribution} → f ≡ Some a → n ≤ max_u64 → OwnerFits a.owner → length (attributed_text n f) ≤ 4 * room
named_short n {a = a} e h k = rw e (four_fit (short (is_attributed n a h k)))

pub unnamed_short : (n : ℕ) {f : Option Attribution} → f ≡ None → n ≤ max_u64 → length (attributed_text n f) ≤ 4 * room
unnamed_short n e h = rw e (four_fit (short (is_unattributed n h)))

pub refused_short : (n : ℕ) (x : Effects) (sent aims : List ℕ) {s : Said} {why : Refusal} → s ≡ Refused why → n ≤ max_u64 → length (said_text n x sent aims s) ≤ 4 * room
refused_short n x sent aims {why = why} e h = rw e (four_fit (short (is_refused n why h)))
