use Rattle.text.proofs.Printing.{then, one_laid}
use Rattle.forms.proofs.put_words.Goals as goal

pub returns-in-Two : goal.returns-in-Two
returns-in-Two c =
    let e = c.store-m.ensures in
    let f = c.store-in-Two.ensures in
    let l = then (one_laid c.args.got.now c.args.n c.in-Two.a e.bytes e.place) (one_laid _ _ c.in-Two.b f.bytes f.place) in
    record { bytes = rw c.in-Two.is l.bytes; place = rw c.in-Two.is l.place }

pub returns-in-Three : goal.returns-in-Three
returns-in-Three c =
    let e = c.store-m-in-Three.ensures in
    let f = c.store-m-in-Three-2.ensures in
    let g = c.store-in-Three.ensures in
    let k = then (one_laid c.args.got.now c.args.n c.in-Three.a e.bytes e.place) (one_laid _ _ c.in-Three.b f.bytes f.place) in
    let l = then k (one_laid _ _ c.in-Three.c g.bytes g.place) in
    record { bytes = rw c.in-Three.is l.bytes; place = rw c.in-Three.is l.place }
