-- Lists of calls of the ledger, and the ledgers that they lead to from the empty one (RULES.md, section 10.7).
-- a call that may change the ledger, with its arguments; of the live connections, what is the first of each peer
use Rattle.std.specs.Prelude.{ℕ, Bool, List, [], ◌∷◌, Option}
use Rattle.ids.specs.declared.PeerId.{PeerId}
use Rattle.ids.specs.declared.ConnectionId.{ConnectionId}
use Rattle.ids.specs.declared.ConnectId.{ConnectId}
use Rattle.ids.specs.declared.NatToken.{NatToken}
use Rattle.path.specs.declared.DialPurpose.{DialPurpose}
use Rattle.path.specs.declared.Claim.{Claim}
use Rattle.ledger.specs.Ledger.{PathLedger, dial_started, finish_dial, aborted_dials, expect_punches, end_punches, ticked, attributed, forgotten}

pub data Call : Type 0 where
  dial_start : ConnectionId → NatToken → DialPurpose → Call
  dial_finish : ConnectionId → Call
  dials_abort : ConnectId → PeerId → (PeerId → Option ConnectionId) → Call
  punches_expect : PeerId → ℕ → Call
  punches_end : PeerId → Call
  tick : ℕ → Call
  attribute : ConnectionId → PeerId → Bool → Option Claim → ℕ → Call
  forget : ConnectionId → Call

-- the ledger that a call leaves
unfoldable pub after : PathLedger → Call → PathLedger
after l (dial_start conn token purpose) = (dial_started l conn token purpose).ledger
after l (dial_finish conn) = (finish_dial l conn).ledger
after l (dials_abort id target first) = (aborted_dials l id target first).ledger
after l (punches_expect peer until) = (expect_punches l peer until).ledger
after l (punches_end peer) = end_punches l peer
after l (tick now) = ticked l now
after l (attribute conn peer circuit claim now) = (attributed l conn peer circuit claim now).ledger
after l (forget conn) = (forgotten l conn).ledger

unfoldable pub after_all : PathLedger → List Call → PathLedger
after_all l [] = l
after_all l (c ∷ cs) = after_all (after l c) cs
