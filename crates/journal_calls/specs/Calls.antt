-- What the calls of a journal's lines do (RULES.md, sections 12.5 to 12.7): the journal after a call, and what is said of it.
use Rattle.std.specs.Prelude.{ℕ, Bool, true, false, List, replicate, Err, None, Ok, Option, Result, Some, is_some, ⊤}
use Rattle.rows.specs.Words.{ledger_words}
use Rattle.prelude.specs.Choice.{pick}
use Rattle.refusal.specs.declared.Refusal.{Refusal}
use Rattle.ids.specs.declared.PeerId.{PeerId}
use Rattle.ids.specs.declared.ConnectionId.{ConnectionId}
use Rattle.ids.specs.declared.StreamId.{StreamId}
use Rattle.ids.specs.declared.NatToken.{NatToken}
use Rattle.ids.specs.declared.ConnectId.{ConnectId}
use Rattle.path.specs.declared.Claim.{Claim}
use Rattle.path.specs.declared.DialPurpose.TheVariants.{Punch}
use Rattle.ledger.specs.Ledger.{PathLedger, Recorded, Attributed, empty_ledger, tables_of, laid, dial_started, forgotten, attributed, ticked}
use Rattle.vocabulary.specs.declared.Settings.{Settings}
use Rattle.vocabulary.specs.declared.Host.{Host}
use Rattle.vocabulary.specs.declared.StreamInput.{StreamInput}
use Rattle.circuit.specs.declared.state.Core.{Core}
use Rattle.circuit.specs.declared.decision.Decision.{Decision}
use Rattle.inbound.specs.declared.InboundCircuit.{InboundCircuit}
use Rattle.circuit.specs.State.{terms_of}
use Rattle.circuit.specs.Decisions.{length_of}
use Rattle.carried.specs.Carried.{sent_after, ledger_after, connect_after, targets_after}
use Rattle.circuit.specs.Calls.{started_of, wrote_of, down_of}
use Rattle.lent.specs.Calls.{up_of, tick_of, peeked, buffer_after}
use Rattle.carried.specs.Carried.{no_frame, no_aims}
use Rattle.inbound.specs.Circuits.{decided_at}
use Rattle.questions.specs.Questions.{claim_of}
use Rattle.journal_effects.specs.declared.Effects.{Effects}
use Rattle.journal_calls.specs.declared.State.{State}
use Rattle.journal_calls.specs.declared.Running.{Running}
use Rattle.journal_calls.specs.declared.Memory.{Memory}
use Rattle.journal_calls.specs.declared.Said.{Said}
use Rattle.journal_calls.specs.declared.Turn.{Turn}
use Rattle.journal_calls.specs.declared.Said.TheVariants as said
use Rattle.path.specs.declared.Attribution.{Attribution}

-- ---- the journal

-- the lines so far, whether a start was accepted, the settings, the circuit, and the rows of the ledger; besides, how the ledger lies in the
-- words lent for it, and the bytes lent for the message that goes out
pub record Journal : Type 0 where
  pub n : ℕ
  pub begun : Bool
  pub settings : Settings
  pub circuit : InboundCircuit
  pub ledger : PathLedger
  pub words : List ℕ
  pub sent : List ℕ

-- before a start was accepted no circuit is there; the numbers of one stand in for it, which no line reaches
abbrev pub idle : Settings → Core
idle s = (started_of (record { 0 = 0 }) (record { 0 = 0 }) (record { 0 = 0 }) s 0).core

abbrev pub core_in : Settings → Option Core → Core
core_in s (Some c) = c
core_in s None = idle s

-- its numbers, which go from line to line by value
abbrev pub state_of : Journal → State
state_of j = record { n = j.n; settings = j.settings; core = pick j.begun (Some j.circuit.core) None }

-- the journal of these numbers and of this memory
abbrev pub whole : State → Memory → Journal
whole s m =
    record {
      n = s.n;
      begun = is_some s.core;
      settings = s.settings;
      circuit = record { core = core_in s.settings s.core; connect = m.connect; targets = m.targets };
      ledger = tables_of m.ledger;
      words = m.ledger;
      sent = m.sent;
    }

-- the journal's numbers while it has a circuit
abbrev pub running : Running → State
running r = record { n = r.n; settings = r.settings; core = Some r.core }

-- the memory of these parts
abbrev pub memory_of : (connect targets sent words : List ℕ) → Memory
memory_of connect targets sent words = record { connect = connect; targets = targets; sent = sent; ledger = words }

-- what the memory is before the first line
abbrev pub blank_memory : Memory
blank_memory = record { connect = no_frame; targets = no_aims; sent = no_frame; ledger = replicate ledger_words 0 }

-- the ledger's new rows lie in the words
abbrev pub with_ledger : Journal → PathLedger → Journal
with_ledger j l =
    record { n = j.n; begun = j.begun; settings = j.settings; circuit = j.circuit; ledger = l; words = laid l j.words; sent = j.sent }

-- behind the first line (section 12.4): no line counted, no circuit started, an empty ledger
unfoldable pub new_journal : Settings → Journal
new_journal s =
    record {
      n = 0;
      begun = false;
      settings = s;
      circuit = record { core = idle s; connect = no_frame; targets = no_aims };
      ledger = empty_ledger;
      words = replicate ledger_words 0;
      sent = no_frame;
    }

-- an accepted start puts its circuit in place of the one before; the ledger stays (section 12.5)
unfoldable pub started : Journal → Core → Journal
started j c =
    record {
      n = j.n;
      begun = true;
      settings = j.settings;
      circuit = record { core = c; connect = no_frame; targets = no_aims };
      ledger = j.ledger;
      words = j.words;
      sent = j.sent;
    }

-- ---- what is said

-- the journal after a line, and what is said of the line
pub record Turned : Type 0 where
  pub journal : Journal
  pub said : Said
  pub effects : Effects

-- of a turn's numbers and of the memory
abbrev pub turned : Turn → Memory → Turned
turned t m = record { journal = whole t.state m; said = t.said; effects = t.effects }

unfoldable pub no_effects : Effects
no_effects = record { first = None; second = None; third = None; fourth = None; message = 0; targets = 0; took = false }

-- no effect that is printed
unfoldable pub silent : Journal → Turned
silent j = record { journal = j; said = said.Effects; effects = no_effects }

-- a refused line changes nothing (section 12.6)
unfoldable pub refused : Journal → Refusal → Turned
refused j why = record { journal = j; said = said.Refused why; effects = no_effects }

-- a connection is named
unfoldable pub naming : Journal → Option Attribution → Turned
naming j f = record { journal = j; said = said.Attributed f; effects = no_effects }

unfoldable pub saying : State → Said → Turn
saying s x = record { state = s; said = x; effects = no_effects }

-- what a circuit decided, with the numbers of the bytes that belong to it, and whether it took the connection
unfoldable pub effects_of : Decision → Effects
effects_of d =
    record {
      first = d.first;
      second = d.second;
      third = d.third;
      fourth = d.fourth;
      message = length_of d.message;
      targets = d.core.targets;
      took = d.took;
    }

abbrev pub with_core : State → Core → State
with_core s c = record { n = s.n; settings = s.settings; core = Some c }

-- the circuit's decision; a refused call changes nothing
abbrev pub settled_in : State → Decision → Result ⊤ Refusal → Turn
settled_in s d (Ok tt) = record { state = with_core s d.core; said = said.Effects; effects = effects_of d }
settled_in s d (Err why) = saying s (said.Refused why)

-- with the bytes and the ledger that it leaves, and how this lies in its words
pub record Leaves : Type 0 where
  pub connect : List ℕ
  pub targets : List ℕ
  pub ledger : PathLedger
  pub words : List ℕ

abbrev pub settled : Journal → Decision → Leaves → Result ⊤ Refusal → Turned
settled j d x (Ok tt) =
    record {
      journal = record {
        n = j.n;
        begun = j.begun;
        settings = j.settings;
        circuit = record { core = d.core; connect = x.connect; targets = x.targets };
        ledger = x.ledger;
        words = x.words;
        sent = sent_after j.circuit.connect j.sent d.message;
      };
      said = said.Effects;
      effects = effects_of d;
    }
settled j d x (Err why) = refused j why

-- ---- the calls (section 12.5)

-- start (section 11.3): a refused one leaves the circuit before it in place
abbrev pub started_by : Journal → Core → Result ⊤ Refusal → Turned
started_by j c (Ok tt) = silent (started j c)
started_by j c (Err why) = refused j why

abbrev pub start_in : Journal → Decision → Turned
start_in j d = started_by j d.core d.outcome

unfoldable pub start_turn : Journal → ℕ → PeerId → PeerId → ConnectionId → Turned
start_turn j at source relay conn = start_in j (started_of source relay conn j.settings at)

-- the source's window in the ledger
abbrev pub ledger_by : Journal → Decision → PathLedger
ledger_by j d = ledger_after j.circuit.core.source j.ledger d.window

-- up (section 11.5)
abbrev pub up_in : Journal → (own : List ℕ) → Decision → Turned
up_in j own d =
    settled j d
    (record {
      connect = connect_after (terms_of j.circuit.core.settings) own j.circuit.connect d.fourth;
      targets = j.circuit.targets;
      ledger = ledger_by j d;
      words = laid (ledger_by j d) j.words;
    })
    d.outcome

unfoldable pub up_turn : Journal → Host → (own : List ℕ) → PeerId → ConnectionId → Bool → Turned
up_turn j h own peer conn relayed = up_in j own (up_of j.circuit.core h own peer conn relayed)

-- what a line does, and the bytes of the reply buffer behind it
pub record Taken : Type 0 where
  pub turn : Turned
  pub reply : List ℕ

-- input (section 11.7); where it does a tick's work the ledger is not ticked
abbrev pub heard_by : Journal → (own reply bytes : List ℕ) → Decision → Turned
heard_by j own reply bytes d =
    settled j d
    (record {
      connect = connect_after (terms_of j.circuit.core.settings) own j.circuit.connect d.fourth;
      targets = targets_after j.circuit.targets (peeked j.circuit.core reply bytes).targets d.window;
      ledger = ledger_by j d;
      words = laid (ledger_by j d) j.words;
    })
    d.outcome

abbrev pub heard : Journal → ℕ → (own reply : List ℕ) → StreamId → StreamInput → (bytes : List ℕ) → Decision → Taken
heard j at own reply stream k bytes d =
    record { turn = heard_by j own reply bytes d; reply = buffer_after j.circuit.core at reply stream k bytes d.outcome }

unfoldable pub input_turn : Journal → Host → (own reply : List ℕ) → StreamId → StreamInput → (bytes : List ℕ) → (pending : Bool) → Taken
input_turn j h own reply stream k bytes pending =
    heard j h.at own reply stream k bytes (decided_at j.circuit j.ledger h own reply stream k bytes pending)

-- tick (section 11.6): the ledger is ticked behind the circuit (section 10.3), and not where the tick is refused
abbrev pub expired : Result ⊤ Refusal → PathLedger → ℕ → PathLedger
expired (Ok tt) l at = ticked l at
expired (Err why) l at = l

abbrev pub tick_in : Journal → ℕ → (own : List ℕ) → Decision → Turned
tick_in j at own d =
    settled j d
    (record {
      connect = connect_after (terms_of j.circuit.core.settings) own j.circuit.connect d.fourth;
      targets = j.circuit.targets;
      ledger = expired d.outcome (ledger_by j d) at;
      words = laid (expired d.outcome (ledger_by j d) at) (laid (ledger_by j d) j.words);
    })
    d.outcome

unfoldable pub tick_turn : Journal → Host → (own : List ℕ) → Turned
tick_turn j h own = tick_in j h.at own (tick_of j.circuit.core h own)

-- wrote and down (section 11.8)
abbrev pub plainly : Journal → Decision → Turned
plainly j d =
    settled j d
    (record { connect = j.circuit.connect; targets = j.circuit.targets; ledger = j.ledger; words = j.words })
    d.outcome

unfoldable pub wrote_turn : Journal → ℕ → ConnectionId → StreamId → Turned
wrote_turn j at conn stream = plainly j (wrote_of j.circuit.core at conn stream)

unfoldable pub down_turn : Journal → ConnectionId → Turned
down_turn j conn = plainly j (down_of j.circuit.core conn)

-- dial: a punch dial of the attempt is started (section 10.2)
abbrev pub dialed_by : Journal → PathLedger → Result ⊤ Refusal → Turned
dialed_by j l (Ok tt) = silent (with_ledger j l)
dialed_by j l (Err why) = refused j why

abbrev pub dial_in : Journal → Recorded → Turned
dial_in j r = dialed_by j r.ledger r.outcome

unfoldable pub dial_turn : Journal → ConnectionId → NatToken → ConnectId → Turned
dial_turn j conn token id = dial_in j (dial_started j.ledger conn token (Punch id))

-- forget (section 10.6)
unfoldable pub forget_turn : Journal → ConnectionId → Turned
forget_turn j conn = silent (with_ledger j (forgotten j.ledger conn).ledger)

-- attribute (section 10.5): only a circuit carries the circuit's own claim (section 11.9)
unfoldable pub claim_for : Core → ConnectionId → Bool → Option Claim
claim_for c conn relayed = pick relayed (claim_of c conn) None

abbrev pub named_by : Journal → PathLedger → Result (Option Attribution) Refusal → Turned
named_by j l (Ok (Some a)) = naming (with_ledger j l) (Some a)
named_by j l (Ok None) = naming (with_ledger j l) None
named_by j l (Err why) = refused j why

abbrev pub attribute_in : Journal → Attributed → Turned
attribute_in j a = named_by j a.ledger a.answer

unfoldable pub attribute_turn : Journal → ℕ → PeerId → ConnectionId → Bool → Turned
attribute_turn j at peer conn relayed =
    attribute_in j (attributed j.ledger conn peer relayed (claim_for j.circuit.core conn relayed) at)
