use mathlib.Core.Path.{sym, ◌∙◌}
use Prim.Native.Nat.{◌+◌, ◌-◌}
use native.Mathlib.Omega.{arith}
use Rattle.wire.specs.Varint.{groups}
use Rattle.wire.proofs.Stores.{sets_out}
use Rattle.wire.proofs.Groups.{not_last, stored_room, stores_on, stores_last}
use Rattle.wire.proofs.put_varint.Goals as goal

pub returns-then-v-lt128 : goal.returns-then-v-lt128
returns-then-v-lt128 c =
    let l = c.loop-p in
    stores_last _ _ (9 + c.args.at - l.p) _ c.if-v-lt128.true ∙ l.invariant.3

pub loop-p-preserved : goal.loop-p-preserved
loop-p-preserved c =
    let l = c.loop-p in
    let at = c.args.at in (
      omega arith,
      omega (arith, not_last (10 + at - l.p) l.v l.invariant.2 c.if-v-lt128.false),
      stored_room l.out at l.p l.v l.invariant.0 l.invariant.2 c.if-v-lt128.false,
      stores_on l.out at l.p l.v l.invariant.0 l.invariant.2 c.if-v-lt128.false ∙ l.invariant.3,
    )

pub returns : goal.returns
returns c =
    let l = c.loop-p in
    sym (sets_out l.out l.p (groups (9 + c.args.at - l.p) l.v) (omega arith)) ∙ l.invariant.3
