use mathlib.Core.Path.{◌∙◌, sym, refl}
use Rattle.carried.proofs.Carries.{connect_written, connect_stays}
use Rattle.carried.specs.Carried.{framed_by, connect_after}
use Rattle.carried.proofs.write_connect.Goals as goal

pub returns-then-is_open : goal.returns-then-is_open
unfolding connect_after framed_by
returns-then-is_open c =
    let t = connect_written c.args.terms c.args.own.now c.args.connect.now c.args.d (sym c.is_open.ensures ∙ c.if-is_open.true) c.own_connect-framed.ensures refl in
    record { answer = t.0; connect = t.1 }

pub returns : goal.returns
unfolding connect_after framed_by
returns c =
    let t = connect_stays c.args.terms c.args.own.now c.args.connect.now c.args.d (sym c.is_open.ensures ∙ c.if-is_open.false) in
    record { answer = t.0; connect = t.1 }
