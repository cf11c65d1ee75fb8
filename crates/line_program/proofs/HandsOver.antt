-- What waits stays or is handed over, and none of it is lost. Assumes nothing.
use mathlib.Core.Path.{◌≡◌, refl, sym, ap, ◌∙◌}
use mathlib.Core.List.{List, [], ◌++◌, append-nil}
use mathlib.Core.Bool.{Bool, true, false}
use Prim.Native.Nat.{ℕ, ◌+◌, ◌≤◌}
use native.Mathlib.Omega.{arith}
use lib.Dec.{leb}
use lib.ListN.{length, take, length-take}
use borrow.Author.Tests.{leb-true}
use Rattle.prelude.specs.Choice.{pick}
use Rattle.line_program.specs.Waits.{stays, waiting_after, handed_after}

module _ (room : ℕ) (follows : Bool) (out : List ℕ) (waiting : ℕ) where
  -- none of it is lost
  pub all_there : handed_after room follows out waiting ++ take (waiting_after room follows out waiting) out ≡ take waiting out
  unfolding waiting_after handed_after
  all_there = go (stays room follows (length out) waiting)
    where
      go : (b : Bool) → pick b [] (take waiting out) ++ take (pick b waiting 0) out ≡ take waiting out
      go true = refl
      go false = append-nil (take waiting out)

  -- what stays leaves room
  pub room_kept : room ≤ length out → waiting_after room follows out waiting + room ≤ length out
  unfolding waiting_after
  room_kept h = go follows (leb (waiting + room) (length out)) refl
    where
      go : (f b : Bool) → leb (waiting + room) (length out) ≡ b → pick (pick f b false) waiting 0 + room ≤ length out
      go true true e = leb-true (waiting + room) (length out) e
      go true false e = omega arith
      go false b e = omega arith

  -- the code's way: of no bytes none waits and none is handed over
  pub kept_none : waiting ≡ 0 → waiting ≡ waiting_after room follows out waiting
  unfolding waiting_after
  kept_none e = go (stays room follows (length out) waiting)
    where
      go : (b : Bool) → waiting ≡ pick b waiting 0
      go true = refl
      go false = e

  pub kept_all : {b : Bool} → b ≡ stays room follows (length out) waiting → b ≡ true → waiting ≡ waiting_after room follows out waiting
  unfolding waiting_after
  kept_all e f = rw (sym e ∙ f)

  pub over_all : {b : Bool} → b ≡ stays room follows (length out) waiting → b ≡ false → 0 ≡ waiting_after room follows out waiting
  unfolding waiting_after
  over_all e f = rw (sym e ∙ f)

  -- where some wait and do not stay some are handed over
  pub over_some : {b v : Bool} → b ≡ stays room follows (length out) waiting → b ≡ false → (waiting ≡ 0 → ⊥) → waiting ≤ length out
      → handed_after room follows out waiting ≡ [] → v ≡ true
  unfolding handed_after
  over_some e f n h z =
      let t : take waiting out ≡ [] = sym (ap (λ (d : Bool). pick d [] (take waiting out)) (sym e ∙ f)) ∙ z in
      absurd (n (omega (arith, ap length t, length-take waiting out)))
