use Prim.Native.Nat.{◌-◌}
use mathlib.Core.Path.{sym}
use native.Mathlib.Omega.{arith}
use Rattle.schedule.proofs.Instants.{fits_mul, over_mul}
use Rattle.schedule.proofs.Schedule.{moved_over, moved_next}
use Rattle.schedule.proofs.move_on.Goals as goal
use Rattle.schedule.proofs.move_on.Goals.{then-until-at-via-then-until-at, then-until-at-via-else-until-at+then-until-at-2}

pub returns-then-until-at : goal.returns-then-until-at
returns-then-until-at c =
    elim c.then-until-at.branch [
      | then-until-at-via-then-until-at w ↦ moved_over c.args.at c.args.until c.args.interval c.args.times (omega (arith, w.if-until-at.true))
      | then-until-at-via-else-until-at+then-until-at-2 w ↦
          moved_over c.args.at c.args.until c.args.interval c.args.times
          (rw (sym c.step-each.ensures) (omega (arith, over_mul c.args.times (c.args.until - c.args.at) c.step-each.result (omega arith) w.if-until-at-2.true)))
    ]

pub returns : goal.returns
returns c = moved_next c.args.at c.args.until c.args.interval c.args.times c.step-each.result c.step-each.ensures (omega (arith, fits_mul c.args.times (c.args.until - c.args.at) c.step-each.result (omega arith) (omega arith)))
