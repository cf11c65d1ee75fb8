use Prim.Native.Nat.{ℕ}
use mathlib.Core.Path.{ap, ◌∙◌}
use mathlib.Core.List.{List}
use Rattle.prelude.specs.Lists.{such}
use Rattle.kinds.specs.declared.Row.{Row}
use Rattle.rows.specs.declared.Table.TheVariants.{Dials, Paths}
use Rattle.rows.specs.declared.Keep.TheVariants.{Other}
use Rattle.rows.specs.Rows.{keeps_row}
use Rattle.rows.specs.Words.{rows_of, start_of}
use Rattle.ledger.specs.Ledger.{forgotten, tables_of}
use Rattle.ledger.proofs.Laws.{such_64, dials_stay, both_tables, both_words}
use Rattle.rows.specs.Words as words
use Rattle.ledger.proofs.forget.Goals as goal

pub returns : goal.returns
unfolding forgotten
returns c =
    let a = c.args in
    let w = a.l.now in
    let h = c.known.ensures in
    let p = keeps_row (Other a.conn.0) in
    let rs = such p (rows_of Paths w) in
    let qs = such p (rows_of Dials w) in
    let k = such_64 w h p (start_of Paths) in
    let m = such_64 w h p 0 in
    let e = c.remove-2.ensures ∙ ap (λ (ws : List ℕ). words.laid Dials (such p (rows_of Dials ws)) ws) c.remove.ensures ∙ ap (λ (xs : List Row). words.laid Dials (such p xs) (words.laid Paths rs w)) (dials_stay w h rs k) in
    record { answer = c.path_at-path.ensures; tables = ap tables_of e ∙ both_tables w h rs k qs m; words = e ∙ both_words w h rs k qs m }
