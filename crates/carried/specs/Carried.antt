-- What becomes of the bytes and of the ledger where a decision is carried out (RULES.md, sections 11.2 and 11.4).
use Rattle.std.specs.Prelude.{ℕ, Bool, true, false, List, [], None, Option, Some}
use Rattle.prelude.specs.Choice.{pick}
use Rattle.ids.specs.declared.PeerId.{PeerId}
use Rattle.candidates.specs.Selection.{Chosen}
use Rattle.candidates.specs.Selection as chosen
use Rattle.candidates.specs.declared.Terms.{Terms}
use Rattle.frames.specs.Sent.{Framed}
use Rattle.frames.specs.Sent.{packed, sync_frame, own_connect}
use Rattle.ledger.specs.Ledger.{PathLedger, end_punches, expect_punches}
use Rattle.vocabulary.specs.declared.Effect.{Effect}
use Rattle.vocabulary.specs.declared.Effect.TheVariants.{Path, Burst, Upgrade, Close, Send, Reset, Open}
use Rattle.circuit.specs.declared.state.Core.{Core}
use Rattle.circuit.specs.declared.decision.Fate.{Fate}
use Rattle.circuit.specs.declared.decision.Fate.TheVariants.{Kept, Removed, Opened}
use Rattle.circuit.specs.declared.decision.Message.{Message}
use Rattle.circuit.specs.declared.decision.Message.TheVariants as message
use Rattle.circuit.specs.declared.decision.Decision.{Decision}

-- the message that goes out, where the round's CONNECT has these bytes
unfoldable pub message_of : List ℕ → Option Message → Framed
message_of connect None = packed []
message_of connect (Some (message.Connect n)) = record { bytes = connect; len = n }
message_of connect (Some message.Sync) = sync_frame

-- the bytes lent for it; without a message they stay
unfoldable pub sent_after : List ℕ → List ℕ → Option Message → List ℕ
sent_after connect sent None = sent
sent_after connect sent (Some (message.Connect n)) = connect
sent_after connect sent (Some message.Sync) = sync_frame.bytes

-- the source's ledger window (section 10.3)
unfoldable pub ledger_after : PeerId → PathLedger → Fate → PathLedger
ledger_after source l Kept = l
ledger_after source l Removed = end_punches l source
ledger_after source l (Opened until) = (expect_punches l source until).ledger

unfoldable pub opens : Option Effect → Bool
opens None = false
opens (Some (Path peer relay conn)) = false
opens (Some (Burst times payload)) = false
opens (Some (Upgrade peer old new)) = false
opens (Some (Close conn)) = false
opens (Some (Send conn stream)) = false
opens (Some (Reset conn stream)) = false
opens (Some (Open conn stream)) = true

-- a round that opens gets the CONNECT with the candidates of the own list
unfoldable pub connect_after : Terms → List ℕ → List ℕ → Option Effect → List ℕ
connect_after t own connect fourth = pick (opens fourth) (own_connect t.limits own).bytes connect

abbrev pub with_connect : Core → ℕ → Core
with_connect c n =
    record {
      source = c.source;
      relay = c.relay;
      circuit = c.circuit;
      settings = c.settings;
      phase = c.phase;
      budget = c.budget;
      connect = n;
      targets = c.targets;
    }

abbrev pub with_core : Decision → Core → Decision
with_core d c =
    record {
      core = c;
      outcome = d.outcome;
      took = d.took;
      window = d.window;
      first = d.first;
      second = d.second;
      third = d.third;
      fourth = d.fourth;
      message = d.message;
    }

unfoldable pub framed_by : Terms → List ℕ → Decision → Decision
framed_by t own d = pick (opens d.fourth) (with_core d (with_connect d.core (own_connect t.limits own).len)) d

-- a window that opens takes the reply's targets
unfoldable pub targets_after : List ℕ → Chosen → Fate → List ℕ
targets_after targets chosen Kept = targets
targets_after targets chosen Removed = targets
targets_after targets chosen (Opened until) = chosen.bytes

-- a circuit begins with no byte of a CONNECT and of targets
abbrev pub no_frame : List ℕ
no_frame = (packed []).bytes

abbrev pub no_aims : List ℕ
no_aims = (chosen.packed []).bytes
