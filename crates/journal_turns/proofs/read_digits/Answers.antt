use Rattle.journal_turns.proofs.Digits.{read_none, read_some, within, whole}
use Rattle.journal_turns.proofs.read_digits.Goals as goal

pub returns-then-end-start : goal.returns-then-end-start
returns-then-end-start c =
    let a = c.args in
    let d = a.digits in
    let t = read_none a.line.now d.start d.end c.min-end.ensures a.out.now c.if-end-start.true in
    record { bytes = t.0; place = t.1; bound = within a.line.now a.out.now d.start d.end t.1; whole = whole a.line.now a.out.now d.start d.end t.1 t.0 }

pub returns : goal.returns
returns c =
    let a = c.args in
    let d = a.digits in
    let t = read_some a.line.now d.start d.end c.min-end.ensures a.out.now (c.read_hexadecimal.ensures.bytes, c.read_hexadecimal.ensures.place) in
    record { bytes = t.0; place = t.1; bound = within a.line.now a.out.now d.start d.end t.1; whole = whole a.line.now a.out.now d.start d.end t.1 t.0 }
