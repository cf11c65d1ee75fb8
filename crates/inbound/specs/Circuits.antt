-- The calls on a circuit by value (RULES.md, sections 11.2 to 11.8): what each answers, and the ledger and the reply buffer that it leaves.
use Rattle.std.specs.Prelude.{ℕ, Bool, List, []}
use Rattle.ids.specs.declared.ConnectionId.{ConnectionId}
use Rattle.ids.specs.declared.StreamId.{StreamId}
use Rattle.ids.specs.declared.PeerId.{PeerId}
use Rattle.frames.specs.Sent.{Framed}
use Rattle.frames.specs.Sent as frame
use Rattle.ledger.specs.Ledger.{PathLedger, refuses_punches}
use Rattle.vocabulary.specs.declared.Settings.{Settings}
use Rattle.vocabulary.specs.declared.Host.{Host}
use Rattle.vocabulary.specs.declared.StreamInput.{StreamInput}
use Rattle.circuit.specs.declared.decision.Decision.{Decision}
use Rattle.inbound.specs.declared.InboundCircuit.{InboundCircuit}
use Rattle.inbound.specs.declared.Answer.{Answer}
use Rattle.circuit.specs.State.{terms_of}
use Rattle.carried.specs.Carried.{message_of, ledger_after, connect_after, targets_after, no_frame, no_aims}
use Rattle.circuit.specs.Decisions.{length_of}
use Rattle.circuit.specs.Calls.{started_of, wrote_of, down_of}
use Rattle.lent.specs.Calls.{up_of, tick_of, peeked, input_of, buffer_after}

-- a decision with a circuit's bytes behind it, and a message
unfoldable pub answer_of : Decision → (connect targets : List ℕ) → Framed → Answer
answer_of d connect targets message =
    record {
      circuit = record { core = d.core; connect = connect; targets = targets };
      outcome = d.outcome;
      took = d.took;
      window = d.window;
      first = d.first;
      second = d.second;
      third = d.third;
      fourth = d.fourth;
      message = message;
    }

-- the message's length is told by its kind
abbrev pub made_of : Decision → (connect targets sent : List ℕ) → Answer
made_of d connect targets sent = answer_of d connect targets (record { bytes = sent; len = length_of d.message })

-- nothing but the core changes, and nothing is sent
abbrev pub plainly : InboundCircuit → Decision → Answer
plainly c d = answer_of d c.connect c.targets (frame.packed [])

-- a round may open; what goes out is the CONNECT from before
abbrev pub opening : InboundCircuit → List ℕ → Decision → Answer
opening c own d = answer_of d (connect_after (terms_of c.core.settings) own c.connect d.fourth) c.targets (message_of c.connect d.message)

unfoldable pub new_answer : PeerId → PeerId → ConnectionId → Settings → ℕ → Answer
new_answer source relay circuit s at =
    answer_of (started_of source relay circuit s at) no_frame no_aims (frame.packed [])

unfoldable pub up_answer : InboundCircuit → Host → (own : List ℕ) → PeerId → ConnectionId → Bool → Answer
up_answer c h own peer conn relayed = opening c own (up_of c.core h own peer conn relayed)

unfoldable pub tick_answer : InboundCircuit → Host → (own : List ℕ) → Answer
tick_answer c h own = opening c own (tick_of c.core h own)

-- a window may open too
abbrev pub hearing : InboundCircuit → (own buffer bytes : List ℕ) → Decision → Answer
hearing c own buffer bytes d =
    answer_of d (connect_after (terms_of c.core.settings) own c.connect d.fourth) (targets_after c.targets (peeked c.core buffer bytes).targets d.window)
    (message_of c.connect d.message)

abbrev pub decided_at : InboundCircuit → PathLedger → Host → (own buffer : List ℕ) → StreamId → StreamInput → (bytes : List ℕ) → (pending : Bool) → Decision
decided_at c l h own buffer stream kind bytes pending =
    input_of c.core (refuses_punches l c.core.source) h own buffer stream kind bytes pending

unfoldable pub input_answer : InboundCircuit → PathLedger → Host → (own buffer : List ℕ) → StreamId → StreamInput → (bytes : List ℕ) → (pending : Bool) → Answer
input_answer c l h own buffer stream kind bytes pending =
    hearing c own buffer bytes (decided_at c l h own buffer stream kind bytes pending)

-- the reply buffer behind it
unfoldable pub input_buffer : InboundCircuit → PathLedger → Host → (own buffer : List ℕ) → StreamId → StreamInput → (bytes : List ℕ) → (pending : Bool) → List ℕ
input_buffer c l h own buffer stream kind bytes pending =
    buffer_after c.core h.at buffer stream kind bytes (decided_at c l h own buffer stream kind bytes pending).outcome

unfoldable pub wrote_answer : InboundCircuit → ℕ → ConnectionId → StreamId → Answer
wrote_answer c at conn stream = plainly c (wrote_of c.core at conn stream)

unfoldable pub down_answer : InboundCircuit → ConnectionId → Answer
down_answer c conn = plainly c (down_of c.core conn)

-- the ledger that a call leaves of the one that it was lent
abbrev pub ledger_behind : InboundCircuit → PathLedger → Answer → PathLedger
ledger_behind c l a = ledger_after c.core.source l a.window
