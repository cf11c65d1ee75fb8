use native.Mathlib.Omega.{arith}
use Rattle.text.specs.Printed.{Page}
use Rattle.text.proofs.Printing.{stored, laid_part, hexadecimal_length}
use Rattle.text.proofs.Printer.put_hexadecimal.Goals as goal

pub returns-then-n-self : goal.returns-then-n-self
returns-then-n-self c =
    let p : Page = record { reference = _; bytes = _; at = _ } in
    let n = hexadecimal_length c.args.bytes.now in
    stored p (laid_part _ _ _ _ (omega arith) (omega arith) c.fill_digits.ensures)
