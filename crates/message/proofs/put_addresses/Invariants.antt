-- `message::put_addresses` meets its contract: the invariant: storing the addresses still to come gives what storing all gives.
use Rattle.std.proofs.Common.{ℕ, ◌≡◌, ◌+◌, ◌≤◌, length}
use lib.Seq.{sets}
use Rattle.wire.specs.Lists.{listed}
use Rattle.message.specs.Message.{scan, content_of, addresses}
use Rattle.message.proofs.Addresses.{Left}
use Rattle.message.proofs.put_addresses.Given as goal

abbrev pub invariant-loop-field : goal.invariant-loop-field
invariant-loop-field l =
    (n : ℕ) × (k : ℕ) × (length l.rest ≤ n) × (l.p + length l.rest ≤ length l.s)
    × Left (scan n k l.rest) l.out l.p (sets l.initial.out 0 (listed (addresses (content_of l.s)))) × (length l.out ≡ length l.initial.out)

abbrev pub decreases-loop-field : goal.decreases-loop-field
decreases-loop-field l = length l.rest
