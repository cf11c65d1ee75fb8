use Rattle.text.proofs.Printing.{digit_laid}
use Rattle.text.proofs.+store_decimal.Goals as goal

pub returns : goal.returns
returns t c =
    let a = c.args in
    let e = c.store_decimal-p.ensures in
    let f = c.store-2.ensures in
    let l = digit_laid a.out.now a.at a.v c.if-v-lt10.false e.bytes e.place f.bytes f.place in
    record { bytes = l.bytes; place = l.place }
