use mathlib.Core.Path.{◌≡◌}
use Prim.Native.Nat.{◌*◌}
use lib.ListN.{drop}
use Rattle.text.specs.Hexadecimal.{bytes_of}
use Rattle.text.specs.Printed.{page, with_text}
use Rattle.text.proofs.read_pairs.Given as goal

abbrev pub invariant-loop-a : goal.invariant-loop-a
invariant-loop-a l = with_text (page l.printer) (bytes_of (drop (l.a-index * 2) l.text)) ≡ with_text (page l.initial.printer) (bytes_of l.text)
