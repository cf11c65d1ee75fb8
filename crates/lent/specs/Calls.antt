-- The calls over lent bytes (RULES.md, sections 11.3 to 11.7): what each decides.
use Rattle.std.specs.Prelude.{ℕ, Bool, List, ltb, length, Result, ⊤, Some, is_ok}
use Rattle.prelude.specs.Choice.{pick, both}
use Rattle.ids.specs.declared.ConnectionId.{ConnectionId}
use Rattle.ids.specs.declared.StreamId.{StreamId}
use Rattle.ids.specs.declared.PeerId.{PeerId}
use Rattle.refusal.specs.declared.Refusal.TheVariants.{ReplyBufferTooShort}
use Rattle.wire.specs.Frame.{max_frame_size}
use Rattle.frames.specs.Gathering.{gathered_into}
use Rattle.vocabulary.specs.declared.Host.{Host}
use Rattle.vocabulary.specs.declared.StreamInput.{StreamInput}
use Rattle.circuit.specs.declared.state.Core.{Core}
use Rattle.circuit.specs.declared.decision.Decision.{Decision}
use Rattle.circuit.specs.Calls.{unless}
use Rattle.lent.specs.declared.reply.Peeked.{Peeked}
use Rattle.circuit.specs.State.{terms_of}
use Rattle.circuit.specs.Decisions.{refused_of}
use Rattle.checks.specs.Refusals.{check_of}
use Rattle.upgrade.specs.Ticks.{tick_at}
use Rattle.upgrade.specs.Ups.{up_at}
use Rattle.inputs.specs.Inputs.{input_at, awaits, frame_bytes}
use Rattle.lent.specs.Brought.{brought_by}
use Rattle.lent.specs.Replies.{peeked_of}
use Rattle.carried.specs.Carried.{framed_by}
use Rattle.refusal.specs.declared.Refusal.{Refusal}

-- ---- up, tick and input

unfoldable pub up_in : Core → Host → List ℕ → PeerId → ConnectionId → Bool → Decision
up_in c h own peer conn relayed = unless c (up_at c h peer conn relayed) (check_of c.phase h.offer own)

-- a round that opens has its CONNECT
unfoldable pub up_of : Core → Host → List ℕ → PeerId → ConnectionId → Bool → Decision
up_of c h own peer conn relayed = framed_by (terms_of c.settings) own (up_in c h own peer conn relayed)

unfoldable pub tick_in : Core → Host → List ℕ → Decision
tick_in c h own = unless c (tick_at c h c.phase) (check_of c.phase h.offer own)

unfoldable pub tick_of : Core → Host → List ℕ → Decision
tick_of c h own = framed_by (terms_of c.settings) own (tick_in c h own)

-- what the bytes bring behind those that the reply buffer has
abbrev pub peeked : Core → List ℕ → List ℕ → Peeked
peeked c buffer bytes = peeked_of (terms_of c.settings) (brought_by bytes buffer (frame_bytes c.phase))

-- the ledger may have no room for the source's window
unfoldable pub hearing : Core → (full : Bool) → Host → (buffer : List ℕ) → StreamId → StreamInput → (bytes : List ℕ) → (pending : Bool) → Decision
hearing c full h buffer stream kind bytes pending =
    input_at c h stream kind pending (Some (peeked c buffer bytes).heard) full c.phase

-- a reply buffer without room for the longest frame is refused before all else
unfoldable pub input_in : Core → (full : Bool) → Host → (own buffer : List ℕ) → StreamId → StreamInput → (bytes : List ℕ) → (pending : Bool) → Decision
input_in c full h own buffer stream kind bytes pending =
    pick (ltb (length buffer) max_frame_size) (refused_of c ReplyBufferTooShort)
    (unless c (hearing c full h buffer stream kind bytes pending) (check_of c.phase h.offer own))

unfoldable pub input_of : Core → (full : Bool) → Host → (own buffer : List ℕ) → StreamId → StreamInput → (bytes : List ℕ) → (pending : Bool) → Decision
input_of c full h own buffer stream kind bytes pending = framed_by (terms_of c.settings) own (input_in c full h own buffer stream kind bytes pending)

-- bytes of the reply are gathered in its buffer, but not by a refused call
unfoldable pub buffer_after : Core → ℕ → List ℕ → StreamId → StreamInput → List ℕ → Result ⊤ Refusal → List ℕ
buffer_after c at buffer stream kind bytes o =
    pick (both (is_ok o) (awaits c at stream kind c.phase)) (gathered_into bytes buffer (frame_bytes c.phase)) buffer
