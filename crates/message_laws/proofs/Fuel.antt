-- The bound of a scan plays no part from the message's length on, so that reading meets the equations that a reader expects.
-- Assumes nothing.
use mathlib.Core.Path.{◌≡◌, refl, sym, ap}
use mathlib.Core.List.{List, [], ◌∷◌}
use Prim.Native.Nat.{ℕ, zero, suc, ◌+◌, ◌<◌, ◌≤◌}
use native.Mathlib.Omega.{arith}
use lib.Dec.{eqb-suc-zero}
use lib.ListN.{length, take, drop, length-drop}
use Rattle.std.specs.Prelude.{None, Option, Some}
use Rattle.prelude.specs.Choice.{pick}
use Rattle.refusal.specs.declared.Refusal.TheVariants.{WrongType}
use Rattle.protobuf.specs.Fields.{field_of}
use Rattle.message.specs.Message.{Content, refused, also, known, step, scan}
use Rattle.protobuf.specs.declared.Field.{Field}
use Rattle.protobuf.specs.declared.Field.TheVariants as f
use Rattle.message.proofs.Scan.{Within, field_within, scan_nil}

step_same : (go go' : ℕ → List ℕ → Content) (k : ℕ) (s : List ℕ) → 0 < length s → (x : Option Field) → Within (length s) x
    → ((j : ℕ) (t : List ℕ) → length t < length s → go j t ≡ go' j t) → step go k s x ≡ step go' k s x
step_same go go' k s p (Some (f.Typed v z)) h q = ap (λ (y : Content). pick (known v) y (refused WrongType)) (q v (drop z s) (omega (arith, length-drop z s)))
step_same go go' k s p (Some (f.Address b l)) h q = ap (also (take l (drop b s))) (q k (drop (b + l) s) (omega (arith, length-drop (b + l) s)))
step_same go go' k s p (Some (f.Other z)) h q = q k (drop z s) (omega (arith, length-drop z s))
step_same go go' k s p None h q = refl

pub enough : (n m k : ℕ) (s : List ℕ) → length s ≤ n → length s ≤ m → scan n k s ≡ scan m k s
unfolding scan
enough zero m k [] h g = sym (scan_nil m k)
enough zero m k (b ∷ t) h g = absurd (omega arith)
enough (suc n) zero k [] h g = scan_nil (suc n) k
enough (suc n) zero k (b ∷ t) h g = absurd (omega arith)
enough (suc n) (suc m) k [] h g = refl
enough (suc n) (suc m) k (b ∷ t) h g =
    rw (eqb-suc-zero (length t))
    (step_same (scan n) (scan m) k (b ∷ t) (omega arith) (field_of (b ∷ t)) (field_within (b ∷ t)) (λ j u l. enough n m j u (omega arith) (omega arith)))

-- what the rest s of a message says where the type k was met last
abbrev pub rest : ℕ → List ℕ → Content
rest k s = scan (length s) k s
