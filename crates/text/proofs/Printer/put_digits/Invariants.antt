use mathlib.Core.Path.{◌≡◌}
use lib.ListN.{drop}
use Rattle.text.specs.Hexadecimal.{hexadecimal}
use Rattle.text.specs.Printed.{page, with_text}
use Rattle.text.proofs.Printer.put_digits.Given as goal

abbrev pub invariant-loop-b : goal.invariant-loop-b
invariant-loop-b l = with_text (page l.self) (hexadecimal (drop l.b-index l.bytes)) ≡ with_text (page l.initial.self) (hexadecimal l.bytes)
