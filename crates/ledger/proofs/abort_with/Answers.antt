use Prim.Native.Nat.{◌≤◌}
use mathlib.Core.Path.{ap, ◌∙◌}
use native.Mathlib.Omega.{arith}
use lib.ListN.{length}
use Rattle.rows.specs.declared.Table.TheVariants.{Dials}
use Rattle.rows.specs.Words.{rows_of}
use Rattle.ledger.specs.Ledger.{aborted_with, tables_of}
use Rattle.dials.specs.Dials.{abort_with, each, left_of, pairs}
use Rattle.dials.specs.declared.Dropped.{Dropped}
use Rattle.ledger.proofs.Laws.{dials_tables, dials_words}
use Rattle.dials.proofs.Staying.{left_≤}
use Rattle.rows.proofs.Words.{used_is}
use Rattle.ledger.proofs.abort_with.Goals as goal

pub returns : goal.returns
unfolding aborted_with abort_with
returns c =
    let a = c.args in
    let w = a.l.now in
    let h = c.known.ensures in
    let rs = each (left_of a.id) (pairs (rows_of Dials w) a.firsts) in
    let k : length rs ≤ 64 = omega (arith, left_≤ a.id (rows_of Dials w) a.firsts, used_is 0 w) in
    let e = c.abort_with.ensures.answer in
    let s = c.abort_with.ensures.words in
    record { retired = ap (λ (d : Dropped). d.retired) e; close = ap (λ (d : Dropped). d.close) e; tables = ap tables_of s ∙ dials_tables w h rs k; words = s ∙ dials_words w h rs k }
