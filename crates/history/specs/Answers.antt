-- What one circuit answers over any list of its calls, whatever its settings, is what the book tells (RULES.md, section 11.10): its effects,
-- the ledgers and reply buffers that it hands back, its refusals, and the connections that it takes.
use Rattle.std.specs.Prelude.{◌≡◌, ℕ, ◌+◌, ◌≤◌, ◌<◌, Bool, true, false, List, [], ◌∷◌, ◌++◌, ltb, length, take, None, Option, Some}
use Rattle.ids.specs.declared.PeerId.{PeerId}
use Rattle.ids.specs.declared.ConnectionId.{ConnectionId}
use Rattle.prelude.specs.Choice.{pick}
use Rattle.time.specs.Time.{last}
use Rattle.wire.specs.Lists.{entries, broken}
use Rattle.message.specs.declared.Kind.TheVariants.{Connect}
use Rattle.message.specs.Encoding.{frame_bytes}
use Rattle.candidates.specs.Selection.{own}
use Rattle.frames.specs.Sent.{Framed}
use Rattle.ledger.specs.Ledger.{PathLedger, refuses_punches, end_punches, expect_punches}
use Rattle.vocabulary.specs.declared.Settings.{Settings}
use Rattle.inbound.specs.declared.InboundCircuit.{InboundCircuit}
use Rattle.vocabulary.specs.declared.Effect.{Effect}
use Rattle.vocabulary.specs.declared.Effect.TheVariants.{Path, Burst, Upgrade, Close, Send, Reset, Open}
use Rattle.inbound.specs.declared.Answer.{Answer}
use Rattle.circuit.specs.declared.state.Phase.TheVariants.{Handshaking, Done}
use Rattle.frames.specs.Sent.{own_connect}
use Rattle.inbound.specs.Circuits.{new_answer, input_buffer, ledger_behind}
use Rattle.history.specs.Calls.{Call, up, input, tick, wrote, down, answer_to, targets_of, step_of, refusals}
use Rattle.history.specs.Numbers.{number_in, answered_with}
use Rattle.history.specs.Book.{Book, Who, terms_of, fresh}
use Rattle.history.specs.Refuses.{refusal, turned, next, numbers, turned_all}
use Rattle.history.specs.Demand3.{begun}
use Rattle.history.specs.Tells.{Says, path, burst, upgrade, close, send, reset, opens, Lot, stays, removed, until, Told, gathers, tells_all, takes_all}

-- ---- effects

-- the bytes of a message in use
abbrev pub bytes_of : Framed → List ℕ
bytes_of m = take m.len m.bytes

-- an effect of an answer, with the message that is sent and the targets of the burst
abbrev pub said_in : Framed → (targets : List (List ℕ)) → Option Effect → List Says
said_in m targets None = []
said_in m targets (Some (Path peer relay conn)) = path peer relay conn ∷ []
said_in m targets (Some (Burst times payload)) = burst times payload targets ∷ []
said_in m targets (Some (Upgrade peer old new)) = upgrade peer old new ∷ []
said_in m targets (Some (Close conn)) = close conn ∷ []
said_in m targets (Some (Send conn stream)) = send conn stream (bytes_of m) ∷ []
said_in m targets (Some (Reset conn stream)) = reset conn stream ∷ []
said_in m targets (Some (Open conn stream)) = opens conn stream ∷ []

-- the four places, in order
abbrev pub said_by : Answer → List Says
said_by a =
    said_in a.message (targets_of a.circuit) a.first
    ++ (said_in a.message (targets_of a.circuit) a.second
    ++ (said_in a.message (targets_of a.circuit) a.third ++ said_in a.message (targets_of a.circuit) a.fourth))

unfoldable pub said : InboundCircuit → Call → List Says
said c k = said_by (answer_to c k)

unfoldable pub said_all : InboundCircuit → List Call → List (List Says)
said_all c [] = []
said_all c (k ∷ ks) = said c k ∷ said_all (step_of c k).circuit ks

unfoldable pub said_is : List Told → List (List Says)
said_is [] = []
said_is (t ∷ ts) = t.said ∷ said_is ts

-- ---- ledgers

-- the ledger that a call hands back; none is lent to a wrote and a down
unfoldable pub back : InboundCircuit → Call → List PathLedger
back c (up l h own peer conn relayed) = ledger_behind c l (answer_to c (up l h own peer conn relayed)) ∷ []
back c (input l buffer h own stream kind bytes pending) = ledger_behind c l (answer_to c (input l buffer h own stream kind bytes pending)) ∷ []
back c (tick l h own) = ledger_behind c l (answer_to c (tick l h own)) ∷ []
back c (wrote at conn stream) = []
back c (down at peer conn) = []

unfoldable pub back_all : InboundCircuit → List Call → List (List PathLedger)
back_all c [] = []
back_all c (k ∷ ks) = back c k ∷ back_all (step_of c k).circuit ks

-- what a lot makes of a ledger (section 10.3)
abbrev pub leaves : PeerId → PathLedger → Lot → PathLedger
leaves source l stays = l
leaves source l removed = end_punches l source
leaves source l (until end) = (expect_punches l source end).ledger

unfoldable pub left_of : PeerId → Call → Lot → List PathLedger
left_of source (up l h own peer conn relayed) t = leaves source l t ∷ []
left_of source (input l buffer h own stream kind bytes pending) t = leaves source l t ∷ []
left_of source (tick l h own) t = leaves source l t ∷ []
left_of source (wrote at conn stream) t = []
left_of source (down at peer conn) t = []

unfoldable pub left_is : PeerId → List Call → List Told → List (List PathLedger)
left_is source [] ts = []
left_is source (k ∷ ks) [] = []
left_is source (k ∷ ks) (t ∷ ts) = left_of source k t.lot ∷ left_is source ks ts

-- where the source's window is opened or extended there is room for it (section 10.1)
abbrev pub Room : PeerId → PathLedger → Lot → Type 0
Room source l stays = Unit {0}
Room source l removed = Unit {0}
Room source l (until end) = refuses_punches l source ≡ false

unfoldable pub Noted : PeerId → Call → Lot → Type 0
Noted source (up l h own peer conn relayed) t = Room source l t
Noted source (input l buffer h own stream kind bytes pending) t = Room source l t
Noted source (tick l h own) t = Room source l t
Noted source (wrote at conn stream) t = Unit {0}
Noted source (down at peer conn) t = Unit {0}

unfoldable pub AllNoted : PeerId → List Call → List Told → Type 0
AllNoted source [] ts = Unit {0}
AllNoted source (k ∷ ks) [] = Unit {0}
AllNoted source (k ∷ ks) (t ∷ ts) = Noted source k t.lot × AllNoted source ks ts

-- ---- reply buffers

-- the reply buffer that a call hands back; none is lent but to an input
unfoldable pub buffer : InboundCircuit → Call → List (List ℕ)
buffer c (up l h own peer conn relayed) = []
buffer c (input l lent h own stream kind bytes pending) = input_buffer c l h own lent stream kind bytes pending ∷ []
buffer c (tick l h own) = []
buffer c (wrote at conn stream) = []
buffer c (down at peer conn) = []

unfoldable pub buffers : InboundCircuit → List Call → List (List (List ℕ))
buffers c [] = []
buffers c (k ∷ ks) = buffer c k ∷ buffers (step_of c k).circuit ks

-- the same by the book
unfoldable pub buffer_is : Book → Call → Bool → List (List ℕ)
buffer_is b (up l h own peer conn relayed) r = []
buffer_is b (input l lent h own stream kind bytes pending) r = pick r lent (gathers h lent stream kind bytes b.stage) ∷ []
buffer_is b (tick l h own) r = []
buffer_is b (wrote at conn stream) r = []
buffer_is b (down at peer conn) r = []

unfoldable pub buffers_are : Settings → Who → Book → List Call → List (List (List ℕ))
buffers_are s who b [] = []
buffers_are s who b (k ∷ ks) = buffer_is b k (turned (refusal who b k)) ∷ buffers_are s who (next s who b k) ks

-- ---- refusals

-- the number of each answer, 0 where it was accepted
unfoldable pub answers : InboundCircuit → List Call → List ℕ
answers c [] = []
answers c (k ∷ ks) = answered_with c k ∷ answers (step_of c k).circuit ks

-- ---- connections that are taken

-- whether each answer took one
unfoldable pub took_all : InboundCircuit → List Call → List Bool
took_all c [] = []
took_all c (k ∷ ks) = (answer_to c k).took ∷ took_all (step_of c k).circuit ks

-- ---- all calls on a new circuit

abbrev pub who_of : PeerId → PeerId → ConnectionId → Who
who_of source relay circuit = record { source = source; relay = relay; circuit = circuit }

unfoldable pub told_of : PeerId → PeerId → ConnectionId → Settings → ℕ → List Call → List Told
told_of source relay circuit s at calls = tells_all s (who_of source relay circuit) (fresh s at) calls

abbrev pub EffectsByTheRule : Type 0
EffectsByTheRule =
    (source relay : PeerId) (circuit : ConnectionId) (s : Settings) (at : ℕ) (calls : List Call)
    → said_all (begun source relay circuit s at) calls ≡ said_is (told_of source relay circuit s at calls)

pub record LedgerByTheRule (source relay : PeerId) (circuit : ConnectionId) (s : Settings) (at : ℕ) (calls : List Call) : Type 0 where
  pub left : back_all (begun source relay circuit s at) calls ≡ left_is source calls (told_of source relay circuit s at calls)
  pub noted : AllNoted source calls (told_of source relay circuit s at calls)

abbrev pub BuffersByTheRule : Type 0
BuffersByTheRule =
    (source relay : PeerId) (circuit : ConnectionId) (s : Settings) (at : ℕ) (calls : List Call)
    → buffers (begun source relay circuit s at) calls ≡ buffers_are s (who_of source relay circuit) (fresh s at) calls

pub record RefusalsByTheRule (source relay : PeerId) (circuit : ConnectionId) (s : Settings) (at : ℕ) (calls : List Call) : Type 0 where
  pub number : answers (begun source relay circuit s at) calls ≡ numbers s (who_of source relay circuit) (fresh s at) calls
  -- so what the book of demand 3 is told of refusals it could tell by itself
  pub which : refusals (begun source relay circuit s at) calls ≡ turned_all (numbers s (who_of source relay circuit) (fresh s at) calls)

abbrev pub TookByTheRule : Type 0
TookByTheRule =
    (source relay : PeerId) (circuit : ConnectionId) (s : Settings) (at : ℕ) (calls : List Call)
    → took_all (begun source relay circuit s at) calls ≡ takes_all s (who_of source relay circuit) (fresh s at) calls

-- a start (section 11.3): 3 where the plain sum passes the last time, and then the circuit is Done, as one whose handshake ran out; else its
-- handshake ends at the sum
pub record StartByTheRule (source relay : PeerId) (circuit : ConnectionId) (s : Settings) (at : ℕ) : Type 0 where
  pub number : number_in (new_answer source relay circuit s at).outcome ≡ pick (ltb last (at + s.handshake)) 3 0
  pub late : last < at + s.handshake → (begun source relay circuit s at).core.phase ≡ Done false
  pub timely : at + s.handshake ≤ last → (begun source relay circuit s at).core.phase ≡ Handshaking (at + s.handshake)

-- the CONNECT of an own list: the candidates chosen from it, framed (sections 4, 5 and 7), and nothing for a broken list
pub record OwnList (s : Settings) (list : List ℕ) : Type 0 where
  pub none : broken list ≡ true → bytes_of (own_connect (terms_of s).limits list) ≡ []
  pub message : broken list ≡ false → bytes_of (own_connect (terms_of s).limits list) ≡ frame_bytes Connect (own (terms_of s).limits (entries list))

-- ---- what follows

-- Done is never left: no call changes such a circuit, or says anything
abbrev pub DoneIsLast : Type 0
DoneIsLast = (c : InboundCircuit) (promoted : Bool) → c.core.phase ≡ Done promoted → (k : Call) → ((step_of c k).circuit ≡ c) × (said c k ≡ [])

-- no answer has more than three effects
unfoldable pub AtMostThree : List (List Says) → Type 0
AtMostThree [] = Unit {0}
AtMostThree (x ∷ xs) = (length x ≤ 3) × AtMostThree xs

abbrev pub ThreeEffects : Type 0
ThreeEffects =
    (source relay : PeerId) (circuit : ConnectionId) (s : Settings) (at : ℕ) (calls : List Call)
    → AtMostThree (said_all (begun source relay circuit s at) calls)
