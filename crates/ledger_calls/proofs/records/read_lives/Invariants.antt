use mathlib.Core.Path.{◌≡◌}
use lib.ListN.{length, take, drop}
use Rattle.ledger_calls.specs.Records.{up_to}
use Rattle.ledger_calls.proofs.Numbers.{lives}
use Rattle.ledger_calls.proofs.records.read_lives.Given as goal

abbrev pub invariant-loop-k : goal.invariant-loop-k
invariant-loop-k l = (length l.room ≡ 1024) × (take l.k l.room ≡ up_to (lives l.s) l.k) × (drop l.k l.room ≡ drop l.k l.initial.room)
