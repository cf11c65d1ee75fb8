-- What a call on a circuit by value answers, from what the call over lent bytes decided.
-- Assumes nothing.
use mathlib.Core.Path.{◌≡◌, refl, ◌∙◌, ap}
use mathlib.Core.Bool.{Bool, true, false}
use mathlib.Core.List.{List, []}
use Prim.Native.Nat.{ℕ, ◌+◌}
use lib.Dec.{ltb}
use lib.ListN.{replicate}
use Rattle.std.specs.Prelude.{None, Option, Some}
use Rattle.prelude.specs.Choice.{pick}
use Rattle.ids.specs.declared.ConnectionId.{ConnectionId}
use Rattle.ids.specs.declared.PeerId.{PeerId}
use Rattle.refusal.specs.declared.Refusal.TheVariants.{HandshakeTooLate}
use Rattle.frames.specs.Sent.{Framed}
use Rattle.vocabulary.specs.declared.Settings.{Settings}
use Rattle.time.specs.Time.{last}
use Rattle.circuit.specs.declared.decision.Message.{Message}
use Rattle.circuit.specs.declared.decision.Decision.{Decision}
use Rattle.frames.specs.Sent.{frame_capacity, packed}
use Rattle.circuit.specs.declared.state.Phase.TheVariants.{Handshaking, Done}
use Rattle.circuit.specs.declared.decision.Message.TheVariants as message
use Rattle.inbound.specs.declared.Answer.{Answer}
use Rattle.circuit.specs.Decisions.{silence, event_of, decided_of, quiet_of, refused_of}
use Rattle.carried.specs.Carried.{message_of, sent_after}
use Rattle.circuit.specs.Decisions.{length_of}
use Rattle.circuit.specs.Calls.{begun_of, started_of}
use Rattle.inbound.specs.Circuits.{answer_of, made_of}

pub sent_message : (connect : List ℕ) (m : Option Message) → record { bytes = sent_after connect (replicate frame_capacity 0) m; len = length_of m } ≡ message_of connect m
unfolding sent_after length_of message_of
sent_message connect None = refl
sent_message connect (Some (message.Connect n)) = refl
sent_message connect (Some message.Sync) = refl

pub made_answer : (connect : List ℕ) {d e : Decision} {r : Answer} {x y t u s z : List ℕ} → r ≡ made_of d x t s → d ≡ e → x ≡ y → t ≡ u
    → s ≡ sent_after connect z e.message → z ≡ replicate frame_capacity 0 → r ≡ answer_of e y u (message_of connect e.message)
made_answer connect {d} {e} {r} {x} {y} {t} {u} {s} {z} i j k l m n =
    i ∙ ap (λ (q : Decision). made_of q x t s) j ∙ ap (λ (q : List ℕ). made_of e q t s) k ∙ ap (λ (q : List ℕ). made_of e y q s) l
    ∙ ap (answer_of e y u)
    (ap {B = Framed} (λ (q : List ℕ). record { bytes = q; len = length_of e.message }) (m ∙ ap (λ (q : List ℕ). sent_after connect q e.message) n)
    ∙ sent_message connect e.message)

pub made_plainly : {d e : Decision} {r : Answer} {x y t u s : List ℕ} → r ≡ made_of d x t s → d ≡ e → x ≡ y → t ≡ u
    → e.message ≡ None → s ≡ replicate frame_capacity 0 → r ≡ answer_of e y u (packed [])
unfolding length_of
made_plainly {d} {e} {r} {x} {y} {t} {u} {s} i j k l m n =
    i ∙ ap (λ (q : Decision). made_of q x t s) j ∙ ap (λ (q : List ℕ). made_of e q t s) k ∙ ap (λ (q : List ℕ). made_of e y q s) l
    ∙ ap (answer_of e y u) (rw (m, n))

pub started_silent : (source relay : PeerId) (circuit : ConnectionId) (s : Settings) (at : ℕ) → (started_of source relay circuit s at).message ≡ None
unfolding started_of refused_of quiet_of decided_of silence event_of
started_silent source relay circuit s at = go (ltb last (at + s.handshake))
  where
    go : (v : Bool)
        → (pick v (refused_of (begun_of source relay circuit s (Done false)) HandshakeTooLate)
        (quiet_of (begun_of source relay circuit s (Handshaking (at + s.handshake))))).message ≡ None
    go true = refl
    go false = refl
