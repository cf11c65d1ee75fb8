use mathlib.Core.Path.{refl}
use Rattle.journal_calls.proofs.Memory.blank.Goals as goal

pub returns-clause-bytes : goal.returns-clause-bytes
returns-clause-bytes c = rw (c.blank-connect.ensures, c.empty-none.ensures, c.blank-sent.ensures, c.empty-ledger.ensures.words) refl
