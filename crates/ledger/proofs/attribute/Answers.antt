use mathlib.Core.Path.{◌≡◌, refl, ap, sym, ◌∙◌}
use mathlib.Core.Bool.{Bool, true, false}
use Rattle.std.proofs.Common.{rules}
use Rattle.std.proofs.lemmas.Result.{MatchResult-at_ok, MatchResult-at_err}
use Rattle.std.specs.Prelude.{Err, Ok, Some}
use Rattle.prelude.specs.Choice.{pick}
use Rattle.refusal.specs.declared.Refusal.TheVariants.{LedgerFull}
use Rattle.rows.specs.Rows.{crowded}
use Rattle.rows.specs.Words.{rows_of}
use Rattle.rows.specs.declared.Table.TheVariants.{Paths}
use Rattle.ledger.specs.Ledger.{attributed, full_refused, tables_of, laid, path_row, with_paths, PathLedger}
use Rattle.rows.specs.Rows.{inserted}
use Rattle.ledger.proofs.Laws.{paths_entered, laid_same, named_left, named_answer}
use Rattle.ledger.proofs.attribute.Goals as goal

pub returns-in_default : goal.returns-in_default
unfolding attributed
returns-in_default c =
    let e = sym c.judge-judgement.ensures ∙ c.in_default.is in
    record { answer = rw e refl; tables = rw e refl; words = rw e (sym (laid_same c.args.l.now c.known.ensures)) }

pub returns : goal.returns
unfolding attributed
returns c =
    let a = c.args in
    let w = a.l.now in
    let full = crowded a.conn.0 (rows_of Paths w) in
    let e = sym c.judge-judgement.ensures ∙ c.in-Some.is in
    let i = rw c.row_of-row.ensures at c.insert.ensures.answer in
    let d = paths_entered w c.known.ensures _ (rw c.row_of-row.ensures at c.insert.ensures.words) in
    let changed = with_paths (tables_of w) (inserted (path_row a.conn c.in-Some.attribution) (rows_of Paths w)) in
    let named = Ok (Some c.in-Some.attribution) in
    let s = named_left full (tables_of w) changed (Err LedgerFull) named in
    record {
      answer = rw e (mapped full i ∙ named_answer full (tables_of w) changed (Err LedgerFull) named);
      tables = rw e (d.tables ∙ s);
      words = rw e (d.words ∙ ap (λ (l : PathLedger). laid l w) s);
    }
  where
    mapped : (b : Bool) → c.insert.result ≡ full_refused b → c.map.result ≡ pick b (Err LedgerFull) (Ok (Some c.in-Some.attribution))
    mapped true q = MatchResult-at_err _ _ LedgerFull q c.map.ensures.cases
    mapped false q = let z = MatchResult-at_ok _ _ tt q c.map.ensures.cases in search rules
