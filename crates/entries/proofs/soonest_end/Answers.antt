use Prim.Native.Nat.{◌<◌}
use mathlib.Core.Path.{refl, ap, sym, ◌∙◌}
use native.Mathlib.Omega.{arith}
use lib.ListN.{length}
use Rattle.rows.specs.Words.{rows_of, no_row}
use Rattle.rows.specs.declared.Table.TheVariants.{Windows}
use Rattle.kinds.specs.Kinds.{entry_of}
use Rattle.entries.specs.Entries.{end_of, sooner}
use Rattle.entries.proofs.Steps.{soonest_end, soonest_more, sooner_none, sooner_on}
use Rattle.entries.proofs.soonest_end.Goals as goal

pub loop-i-init : goal.loop-i-init
unfolding sooner
loop-i-init c = refl

pub loop-i-preserved : goal.loop-i-preserved
loop-i-preserved c =
    let rs = rows_of Windows c.args.l.now in
    let w = c.loop-i in
    let b : w.i < length rs = omega arith in
    let q = c.end_of.ensures ∙ ap end_of (c.entry_of-entry.ensures ∙ ap entry_of c.row_at.ensures) in
    rw (c.sooner_of-end.ensures, q, sooner_on) (ap (sooner w.end) (sym (soonest_more rs w.i no_row b)) ∙ w.invariant)

pub returns : goal.returns
returns c =
    let rs = rows_of Windows c.args.l.now in
    sym (sooner_none c.loop-i.end) ∙ ap (sooner c.loop-i.end) (sym (soonest_end rs c.loop-i.i (omega arith))) ∙ c.loop-i.invariant
