use Rattle.std.proofs.Common.{ap, ◌∙◌}
use Rattle.ledger.specs.Ledger.{Aborted, aborted_with, tables_of, laid}
use Rattle.live_dials.specs.First.{firsts_of}
use Rattle.live_dials.proofs.Equal.{same_abort}
use Rattle.live_dials.proofs.abort_attempt_dials.Goals as goal

pub returns : goal.returns
returns c =
    let a = c.args in
    let l = tables_of a.l.now in
    let s = ap (aborted_with l a.id) (c.first_lives-firsts.ensures ∙ ap (firsts_of a.live.now) c.asked_rows-asked.ensures) ∙ same_abort l a.id a.target a.live.now in
    let e = c.abort_with.ensures in
    record {
      retired = e.retired ∙ ap (λ (d : Aborted). d.retired) s;
      close = e.close ∙ ap (λ (d : Aborted). d.close) s;
      tables = e.tables ∙ ap (λ (d : Aborted). d.ledger) s;
      words = e.words ∙ ap (λ (d : Aborted). laid d.ledger a.l.now) s;
    }
