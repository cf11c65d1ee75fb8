-- `frames::sync_frame` meets its contract: the four bytes are those of the definition.
use mathlib.Core.Path.{ap}
use mathlib.Core.List.{List}
use Prim.Native.Nat.{ℕ}
use lib.ListN.{set}
use Rattle.wire.specs.Varint.{groups}
use Rattle.message.specs.Encoding.{address_fields}
use Rattle.frames.specs.Sent.{sync_frame}
use Rattle.frames.specs.Sent.{Framed}
use Rattle.frames.proofs.sync_frame.Goals as goal

pub returns : goal.returns
unfolding sync_frame groups address_fields
returns c = ap {B = Framed} (λ (b : List ℕ). record { bytes = set (set (set (set b 0 0x03) 1 0x08) 2 0xac) 3 0x02; len = 4 }) c.blank-bytes.ensures
