use mathlib.Core.Path.{refl}
use native.Mathlib.Omega.{arith}
use lib.ListN.{length-set}
use Rattle.ledger_calls.specs.Records.{up_to}
use Rattle.ledger_calls.proofs.Numbers.{live_next, rest_next, lives_all, lives_laid}
use Rattle.ledger_calls.proofs.records.read_lives.Goals as goal

pub loop-k-init : goal.loop-k-init
unfolding up_to
loop-k-init c = (c.told-room, refl, refl)

pub loop-k-preserved : goal.loop-k-preserved
loop-k-preserved c =
    let i = c.loop-k.invariant in (
      simp length-set i.0,
      live_next c.args.s.now c.args.room.now _ _ i.1 i.2 (omega (arith, c.min-n.ensures, i.0)) c.live_at.ensures,
      rest_next c.args.s.now c.args.room.now _ _ i.1 i.2 _,
    )

pub returns : goal.returns
returns c =
    let i = c.loop-k.invariant in
    let e = c.min-n.ensures in
    record {
      lives = lives_laid c.args.s.now c.args.room.now _ _ i.1 i.2 e (omega arith);
      count = e;
      read = lives_all c.args.s.now c.args.room.now _ _ i.1 i.2 e (omega arith);
    }
