use mathlib.Core.Path.{ap, ◌∙◌}
use Rattle.ledger.specs.Ledger.{replaced_by}
use Rattle.path.specs.Judged.{upgrade_of}
use Rattle.ledger.proofs.replaced.Goals as goal

pub returns : goal.returns
unfolding replaced_by
returns c = c.upgrade.ensures ∙ ap (upgrade_of c.args.old) c.path_at.ensures
