-- `lent::reply::targets_from` meets its contract: a broken list has no target.
use mathlib.Core.Path.{ap, sym, ◌∙◌}
use Rattle.lent.specs.Replies.{chosen_in, chosen_from}
use Rattle.lent.proofs.reply.targets_from.Goals as goal

pub returns-in-Err : goal.returns-in-Err
unfolding chosen_from
returns-in-Err c = c.empty.ensures ∙ ap chosen_in (sym c.in-Err.is ∙ c.select_punch_candidates.ensures)
