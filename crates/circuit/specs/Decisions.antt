-- What a call decides (RULES.md, section 11.2): the core behind it, what becomes of the source's ledger window, the four places of effects,
-- and which message goes out.
use Rattle.std.specs.Prelude.{ℕ, Bool, false, eqb, Err, None, Ok, Option, Some}
use Rattle.prelude.specs.Choice.{pick, either}
use Rattle.ids.specs.declared.ConnectionId.{ConnectionId}
use Rattle.ids.specs.declared.StreamId.{StreamId}
use Rattle.refusal.specs.declared.Refusal.{Refusal}
use Rattle.frames.specs.Sent.{sync_frame}
use Rattle.vocabulary.specs.declared.Effect.{Effect}
use Rattle.vocabulary.specs.declared.Effect.TheVariants.{Burst, Send, Reset}
use Rattle.circuit.specs.declared.state.Core.{Core}
use Rattle.circuit.specs.declared.decision.Fate.{Fate}
use Rattle.circuit.specs.declared.decision.Fate.TheVariants.{Kept}
use Rattle.circuit.specs.declared.decision.Message.{Message}
use Rattle.circuit.specs.declared.decision.Message.TheVariants as message
use Rattle.circuit.specs.declared.decision.Said.{Said}
use Rattle.circuit.specs.declared.decision.Decision.{Decision}

-- an effect in the first place and a reset in the third; no message
unfoldable pub event_of : Option Effect → Option Effect → Said
event_of e r = record { first = e; second = None; third = r; message = None }

unfoldable pub silence : Said
silence = event_of None None

unfoldable pub reset_of : ConnectionId → StreamId → Said
reset_of conn stream = event_of None (Some (Reset conn stream))

-- the targets, once for each of so many instants; nothing without an instant or without a byte of targets
unfoldable pub burst_of : ℕ → ℕ → ℕ → Said
burst_of times payload targets = pick (either (eqb times 0) (eqb targets 0)) silence (event_of (Some (Burst times payload)) None)

-- behind it a message on the exchange's stream, and the stream's reset where the exchange is over
unfoldable pub sending_of : Said → ConnectionId → StreamId → Option Message → Bool → Said
sending_of s conn stream m over =
    record {
      first = s.first;
      second = Some (Send conn stream);
      third = pick over (Some (Reset conn stream)) None;
      message = m;
    }

-- an accepted call
unfoldable pub decided_of : Core → Fate → Said → Option Effect → Decision
decided_of c w s e =
    record {
      core = c;
      outcome = Ok tt;
      took = false;
      window = w;
      first = s.first;
      second = s.second;
      third = s.third;
      fourth = e;
      message = s.message;
    }

unfoldable pub quiet_of : Core → Decision
quiet_of c = decided_of c Kept silence None

-- a refused call changes nothing
unfoldable pub refused_of : Core → Refusal → Decision
refused_of c why =
    record {
      core = c;
      outcome = Err why;
      took = false;
      window = Kept;
      first = None;
      second = None;
      third = None;
      fourth = None;
      message = None;
    }

-- how many bytes the message has
unfoldable pub length_of : Option Message → ℕ
length_of None = 0
length_of (Some (message.Connect n)) = n
length_of (Some message.Sync) = sync_frame.len
