use Rattle.text.specs.Printed.{Page}
use Rattle.text.proofs.Printing.{stored, no_room, laid_cut}
use Rattle.text.proofs.Printer.put_text.Goals as goal

pub returns : goal.returns
returns c =
    let p : Page = record { reference = _; bytes = _; at = _ } in
    stored p (laid_cut _ _ _ c.args.text.now c.if-self.false c.min-n.ensures c.copy_from_slice.ensures.after)

pub returns-then-self : goal.returns-then-self
returns-then-self c = stored (record { reference = _; bytes = _; at = _ }) (no_room _ _ _ c.if-self.true)
