use mathlib.Core.Path.{◌≡◌}
use lib.ListN.{drop}
use Rattle.text.specs.Printed.{page, with_text}
use Rattle.ledger_calls.specs.Records.{numbers_bytes}
use Rattle.ledger_calls.proofs.records.put_numbers.Given as goal

abbrev pub invariant-loop-v : goal.invariant-loop-v
invariant-loop-v l = with_text (page l.printer) (numbers_bytes (drop l.v-index l.numbers)) ≡ with_text (page l.initial.printer) (numbers_bytes l.numbers)
