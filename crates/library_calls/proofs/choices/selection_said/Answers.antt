use mathlib.Core.Path.{◌∙◌}
use Rattle.library_calls.proofs.Choosing.{kept_shown}
use Rattle.library_calls.proofs.choices.selection_said.Goals as goal

pub returns-in-Ok : goal.returns-in-Ok
returns-in-Ok c = c.show.ensures ∙ kept_shown _ c.in-Ok.is c.no_bytes-bytes.ensures c.put_bytes.ensures
