use mathlib.Core.Path.{refl, ◌∙◌}
use Rattle.ledger.specs.Ledger.{judged_by}
use Rattle.ledger.proofs.judge.Goals as goal

pub returns : goal.returns
unfolding judged_by
returns c = c.judge.ensures ∙ rw (c.dial_at-dial.ensures, c.window_open-lasting.ensures) refl
