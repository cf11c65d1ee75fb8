use Rattle.std.proofs.Common.{ap}
use Rattle.text.specs.Printed.{page, with_text}
use Rattle.journal_prints.specs.Outputs.{with_commas}
use Rattle.journal_prints.proofs.Targets.{other_printed, others_end}
use Rattle.journal_prints.proofs.put_others.Goals as goal

pub loop-address-init : goal.loop-address-init
loop-address-init c = ap (λ left. with_text (page c.args.printer.now) (with_commas left)) c.into_iter-address-iterator.ensures.into_iter_gives

pub loop-address-preserved : goal.loop-address-preserved
loop-address-preserved c = other_printed _ _ _ _ c.in-Some.ensures.steps c.put_byte.ensures c.put_hexadecimal.ensures c.loop-address.invariant

pub returns : goal.returns
returns c = others_end _ _ c.in-None.ensures.steps.0 c.loop-address.invariant
