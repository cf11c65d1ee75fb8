-- The CONNECT of an own list: the candidates chosen from it always fit a frame.
-- Assumes nothing.
use mathlib.Core.Path.{◌≡◌, refl, sym, ◌∙◌}
use mathlib.Core.Bool.{Bool, true, false}
use mathlib.Core.List.{List, []}
use Prim.Native.Nat.{ℕ, ◌-◌, ◌≤◌}
use native.Mathlib.Omega.{arith}
use borrow.Author.Tests.{le-leb}
use lib.ListN.{length, replicate, length-append}
use Rattle.std.specs.Prelude.{Err, Ok, Result}
use Rattle.wire.specs.Lists.{entries, broken, listed}
use Rattle.message.specs.declared.Kind.TheVariants.{Connect}
use Rattle.message.specs.Encoding.{frame_bytes}
use Rattle.frames.specs.Sent.{connect_frame, chosen_connect, own_connect}
use Rattle.frames.specs.Sent as frame
use Rattle.frames.specs.Sent.{Framed}
use Rattle.frames.proofs.Frames.{connect_listed}
use Rattle.candidates.specs.Selection.{usual, most, held, own, packed, capacity, answered}
use Rattle.candidates.specs.declared.Limits.{Limits}
use Rattle.candidates.specs.Selection.{Chosen}
use Rattle.candidates.proofs.Answers.{held_small}
use Rattle.candidates.proofs.Promises.{own_short, own_limits, own_list}
use Rattle.refusal.specs.declared.Refusal.{Refusal}
use Rattle.refusal.specs.declared.Refusal.TheVariants as Refusal·

pub own_fits : (l : Limits) (list : List ℕ) → l.family ≤ usual.family → broken list ≡ false
    → own_connect l list ≡ frame.packed (frame_bytes Connect (own (held l) (entries list)))
unfolding own_connect
own_fits l list h e =
    let s = own_short (held l) (entries list) in
    let t : length (own (held l) (entries list)) ≤ most = omega (arith, (own_limits (held l) (entries list)).0.total, held_small l) in
    let f : length (frame_bytes Connect (own (held l) (entries list))) ≤ frame.frame_capacity
    = (connect_listed (own (held l) (entries list)) t (omega (arith, s.v4)) s.v6).0 in
    rw (e, le-leb (length (frame_bytes Connect (own (held l) (entries list)))) frame.frame_capacity f)

-- of the selection from an own list
module _ (l : Limits) (list : List ℕ) {s : Result Chosen Refusal} (e : s ≡ answered list (own (held l) (entries list))) where
  pub own_broken : {w : Refusal} {f : Framed} → s ≡ Err w → f ≡ frame.packed [] → f ≡ own_connect l list
  unfolding answered own_connect
  own_broken {w} {f} g h = go (broken list) refl (sym e ∙ g)
    where
      go : (t : Bool) → broken list ≡ t → answered list (own (held l) (entries list)) ≡ Err w → f ≡ own_connect l list
      go true i j = rw i h
      go false i j = absurd (let k : Ok (packed (listed (own (held l) (entries list)))) ≡ Err w = rw i at j in let z : ◌≡◌ {A = ℕ} 0 1 = cc in omega arith)

  kept_is : {c : Chosen} → s ≡ Ok c → (broken list ≡ false) × (c ≡ packed (listed (own (held l) (entries list))))
  unfolding answered
  kept_is {c} g = go (broken list) refl (sym e ∙ g)
    where
      go : (t : Bool) → broken list ≡ t → answered list (own (held l) (entries list)) ≡ Ok c
          → (broken list ≡ false) × (c ≡ packed (listed (own (held l) (entries list))))
      go true i j = absurd (let m : Err Refusal·.BrokenList ≡ Ok c = rw i at j in let z : ◌≡◌ {A = ℕ} 0 1 = cc in omega arith)
      go false i j = (i, let m : Ok (packed (listed (own (held l) (entries list)))) ≡ Ok c = rw i at j in cc)

  pub own_within : {c : Chosen} → s ≡ Ok c → c.len ≤ length c.bytes
  own_within g =
      rw (kept_is g).1
      (omega (arith, length-append (listed (own (held l) (entries list))) (replicate (capacity - length (listed (own (held l) (entries list)))) 0)))

  pub own_kept : {c : Chosen} → s ≡ Ok c → {f : Framed} → f ≡ chosen_connect c → f ≡ own_connect l list
  unfolding own_connect chosen_connect connect_frame
  own_kept g {f} h =
      let w = own_list (held l) (entries list) in
      rw ((kept_is g).0, h, (kept_is g).1, w.whole, w.read)
