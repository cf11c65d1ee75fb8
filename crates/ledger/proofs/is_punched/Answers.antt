use mathlib.Core.Path.{ap, ◌∙◌}
use Rattle.ledger.specs.Ledger.{is_punched}
use Rattle.path.specs.Judged.{punched_at}
use Rattle.ledger.proofs.is_punched.Goals as goal

pub returns : goal.returns
unfolding is_punched
returns c = c.is_punched.ensures ∙ ap punched_at c.path_at.ensures
