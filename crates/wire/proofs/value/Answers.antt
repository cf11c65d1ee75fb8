use mathlib.Core.Path.{sym, ap, ◌∙◌}
use Prim.Native.Nat.{ℕ, ◌+◌, ◌-◌, ◌*◌, ◌%◌}
use native.Mathlib.Omega.{arith}
use lib.Pow.{pow_pos}
use lib.ListN.{get_or}
use Rattle.wire.proofs.Spans.{last_group, no_group, room, room_fits, tenth}
use Rattle.wire.proofs.value.Goals as goal

pub loop-i-init : goal.loop-i-init
loop-i-init c = (pow_pos (64 - 7 * c.args.n), no_group c.args.s.now c.args.n)

pub overflow_mul-v : goal.overflow_mul-v
overflow_mul-v c = omega (arith, room_fits c.loop-i.v 0 c.loop-i.i (omega arith) (omega arith) c.loop-i.invariant.0 (λ _. omega arith))

pub overflow_add-v : goal.overflow_add-v
overflow_add-v c =
    let i = c.loop-i.i in
    let last = tenth c.args.s.now c.args.n i (omega arith) (omega arith) c.requires.2 in
    omega (arith, room_fits c.loop-i.v (get_or c.args.s.now (i - 1) 0) i (omega arith) (omega arith) c.loop-i.invariant.0 last)

pub loop-i-preserved : goal.loop-i-preserved
loop-i-preserved c =
    let i = c.loop-i.i in
    let s = c.args.s.now in
    let last = tenth s c.args.n i (omega arith) (omega arith) c.requires.2 in (
      rw c.from.ensures (room c.loop-i.v (get_or s (i - 1) 0) i (omega arith) (omega arith) c.loop-i.invariant.0 last),
      rw c.from.ensures (ap (λ (x : ℕ). x * 128 + get_or s (i - 1) 0 % 128) c.loop-i.invariant.1 ∙ sym (last_group s c.args.n i (omega arith) (omega arith) (omega arith))),
    )
