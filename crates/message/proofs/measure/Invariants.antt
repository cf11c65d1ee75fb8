-- `message::measure` meets its contract: the invariant: what is left to scan, with the type and the length so far, measures as the whole does.
use Rattle.std.proofs.Common.{ℕ, ◌≡◌, ◌+◌, ◌≤◌, length}
use Rattle.message.specs.Message.{scan, content_of, with_room}
use Rattle.message.proofs.Scan.{longer, met}
use Rattle.message.proofs.measure.Given as goal

abbrev pub invariant-loop-field : goal.invariant-loop-field
invariant-loop-field l =
    (n : ℕ) × (k : ℕ) × (met k ≡ l.kind) × (length l.rest ≤ n) × (l.size + length l.rest ≤ length l.s) × (longer l.size (with_room (scan n k l.rest)) ≡ with_room (content_of l.s))

abbrev pub decreases-loop-field : goal.decreases-loop-field
decreases-loop-field l = length l.rest
