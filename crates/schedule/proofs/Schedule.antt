-- A schedule's count and its next instant, in closed form.
-- Assumes nothing.
use mathlib.Core.Path.{◌≡◌}
use Prim.Native.Nat.{ℕ, ◌+◌, ◌-◌, ◌*◌, ◌/◌, ◌≤◌, ◌<◌, min, max}
use native.Mathlib.Omega.{arith}
use lib.ListN.{length, drop}
use Rattle.time.specs.Time.{last}
use Rattle.schedule.specs.Instants.{instants, count_to}
use Rattle.schedule.specs.Schedule.{schedule_of}
use Rattle.schedule.specs.declared.BlastSchedule.TheVariants.{Next, Over}
use Rattle.schedule.proofs.Instants.{instants_none, instants_some, length_none, length_some, drop_instants, count_early}

module _ (at until i now limit : ℕ) (l : limit ≡ min until now) where
  early : count_to now (instants at i until) ≡ length (instants at i limit)
  early = rw l (count_early now at i until)

  pub due_none : limit < at → 0 ≡ min (count_to now (instants at i until)) last
  due_none h = omega (arith, early, length_none at i limit h)

  pub due_some : (d r : ℕ) → d ≡ max i 1 → at ≤ limit → r ≡ min ((limit - at) / d + 1) last
      → r ≡ min (count_to now (instants at i until)) last
  due_some d r e h k = omega (arith, early, length_some at i limit d e h)

module _ (at until i n : ℕ) where
  pub moved_over : until < at + n * max i 1 → Over ≡ schedule_of until (drop n (instants at i until))
  moved_over h = rw (drop_instants n at i until, instants_none (at + n * max i 1) i until h)

  pub moved_next : (d : ℕ) → d ≡ max i 1 → at + n * d ≤ until → Next (at + n * d) until ≡ schedule_of until (drop n (instants at i until))
  moved_next d e h =
      let k : at + n * max i 1 ≤ until = rw e at h in
      rw (drop_instants n at i until, instants_some (at + n * max i 1) i until k, e)
