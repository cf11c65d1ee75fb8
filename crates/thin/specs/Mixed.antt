-- Lists of calls among which some are thin (RULES.md, section 11.11).
use Rattle.std.specs.Prelude.{◌≡◌, ℕ, ◌≤◌, Bool, List, [], ◌∷◌, ◌++◌, length}
use Rattle.ids.specs.declared.ConnectionId.{ConnectionId}
use Rattle.ids.specs.declared.StreamId.{StreamId}
use Rattle.ids.specs.declared.PeerId.{PeerId}
use Rattle.ledger.specs.Ledger.{PathLedger}
use Rattle.vocabulary.specs.declared.Settings.{Settings}
use Rattle.vocabulary.specs.declared.Host.{Host}
use Rattle.inbound.specs.declared.InboundCircuit.{InboundCircuit}
use Rattle.inbound.specs.declared.Answer.{Answer}
use Rattle.inbound.specs.Circuits.{tick_answer, wrote_answer}
use Rattle.history.specs.Calls.{Call, tick, wrote, Datagram, Step, answered, step_of, datagrams, refusals}
use Rattle.history.specs.Questions.{after_all}
use Rattle.history.specs.Demand3.{due, most, begun, windows_of}

-- a call by value, or a thin call
pub data Mixed : Type 0 where
  by_value : Call → Mixed
  thin_tick : PathLedger → Host → (own : List ℕ) → Mixed
  thin_wrote : (at : ℕ) → ConnectionId → StreamId → Mixed

-- the call that it makes
abbrev pub made : Mixed → Call
made (by_value k) = k
made (thin_tick l h own) = tick l h own
made (thin_wrote at conn stream) = wrote at conn stream

unfoldable pub made_all : List Mixed → List Call
made_all [] = []
made_all (m ∷ ms) = made m ∷ made_all ms

-- an answer, and the circuit that stands in the lent place
abbrev pub lent : Answer → InboundCircuit → Step
lent a c = record { circuit = c; sent = (answered a).sent; refused = (answered a).refused }

-- what a call leaves; a thin one as its contract says
unfoldable pub leaves : InboundCircuit → Mixed → Step
leaves c (by_value k) = step_of c k
leaves c (thin_tick l h own) = lent (tick_answer c h own) (tick_answer c h own).circuit
leaves c (thin_wrote at conn stream) = lent (wrote_answer c at conn stream) (wrote_answer c at conn stream).circuit

-- what the answers send, in order; a call acts on what the one before it left
unfoldable pub sent : InboundCircuit → List Mixed → List Datagram
sent c [] = []
sent c (m ∷ ms) = (leaves c m).sent ++ sent (leaves c m).circuit ms

-- which calls were refused
unfoldable pub refused : InboundCircuit → List Mixed → List Bool
refused c [] = []
refused c (m ∷ ms) = (leaves c m).refused ∷ refused (leaves c m).circuit ms

-- the circuit that the last call left
unfoldable pub left : InboundCircuit → List Mixed → InboundCircuit
left c [] = c
left c (m ∷ ms) = left (leaves c m).circuit ms

-- as if each call had been the one that it makes
pub record AsMade (c : InboundCircuit) (calls : List Mixed) : Type 0 where
  pub same_sent : sent c calls ≡ datagrams c (made_all calls)
  pub same_refused : refused c calls ≡ refusals c (made_all calls)
  pub same_left : left c calls ≡ after_all c (made_all calls)

-- the circuit is as it was, and nothing is sent
pub record Unchanged (c : InboundCircuit) (call : Mixed) : Type 0 where
  pub circuit : (leaves c call).circuit ≡ c
  pub nothing : (leaves c call).sent ≡ []

-- demand 3 of such a list
pub record Demand3Mixed (source relay : PeerId) (circuit : ConnectionId) (s : Settings) (at : ℕ) (calls : List Mixed) : Type 0 where
  pub same : sent (begun source relay circuit s at) calls ≡ due s (windows_of source relay circuit s at (made_all calls))
  pub bound : length (sent (begun source relay circuit s at) calls) ≤ most s (windows_of source relay circuit s at (made_all calls))
