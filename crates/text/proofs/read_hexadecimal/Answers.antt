use mathlib.Core.Path.{sym}
use Prim.Native.Nat.{◌+◌, ◌/◌}
use lib.ListN.{length, length-take, length-drop}
use native.Mathlib.Omega.{arith}
use Rattle.text.specs.Hexadecimal.{bytes_of}
use Rattle.text.proofs.Reading.{even_length, bytes_count}
use Rattle.text.proofs.Printing.{laid_part}
use Rattle.text.proofs.read_hexadecimal.Goals as goal

pub convert-requires : goal.convert-requires
convert-requires c = (sym c.if-is_hexadecimal.ensures, simp (length-take, length-drop) (omega (arith, even_length _ (sym c.if-is_hexadecimal.ensures))))

pub returns-then-is_hexadecimal : goal.returns-then-is_hexadecimal
returns-then-is_hexadecimal c =
    let s = c.args.text.now in
    let n = bytes_count s (sym c.if-is_hexadecimal.ensures) in
    let l = laid_part c.args.out.now c.args.at (c.args.at + length s / 2) (bytes_of s) (omega arith) (omega arith) c.convert.ensures in
    record { bytes = l.bytes; place = l.place }
