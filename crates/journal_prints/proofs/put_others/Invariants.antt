use Rattle.std.proofs.Common.{◌≡◌}
use Rattle.text.specs.Printed.{page, with_text}
use Rattle.journal_prints.specs.Outputs.{with_commas}
use Rattle.journal_prints.proofs.put_others.Given as goal

abbrev pub invariant-loop-address : goal.invariant-loop-address
invariant-loop-address l = with_text (page l.printer) (with_commas l.address-iterator) ≡ with_text (page l.initial.printer) (with_commas l.fn.left)
