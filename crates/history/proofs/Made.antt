-- A decision made into an answer with the bytes beside it: what a call that may open a round or a window answers.
-- Assumes nothing.
use mathlib.Core.Path.{◌≡◌, refl}
use mathlib.Core.Bool.{Bool, true, false}
use mathlib.Core.List.{List}
use Prim.Native.Nat.{ℕ}
use Rattle.prelude.specs.Choice.{pick}
use Rattle.ids.specs.declared.ConnectionId.{ConnectionId}
use Rattle.ids.specs.declared.PeerId.{PeerId}
use Rattle.ids.specs.declared.StreamId.{StreamId}
use Rattle.candidates.specs.Selection.{Chosen}
use Rattle.frames.specs.Sent.{Framed}
use Rattle.frames.specs.Sent.{own_connect}
use Rattle.ledger.specs.Ledger.{PathLedger, refuses_punches}
use Rattle.vocabulary.specs.declared.Host.{Host}
use Rattle.vocabulary.specs.declared.StreamInput.{StreamInput}
use Rattle.vocabulary.specs.declared.Settings.{Settings}
use Rattle.circuit.specs.State.{terms_of}
use Rattle.circuit.specs.declared.decision.Decision.{Decision}
use Rattle.circuit.specs.declared.decision.Fate.{Fate}
use Rattle.circuit.specs.declared.decision.Fate.TheVariants.{Kept, Removed, Opened}
use Rattle.inbound.specs.declared.InboundCircuit.{InboundCircuit}
use Rattle.inbound.specs.declared.Answer.{Answer}
use Rattle.carried.specs.Carried.{message_of, opens, connect_after, with_connect, with_core, framed_by, targets_after}
use Rattle.lent.specs.Calls.{up_in, up_of, tick_in, tick_of, peeked, input_in, input_of}
use Rattle.inbound.specs.Circuits.{answer_of, up_answer, tick_answer, input_answer}

-- the bytes of a circuit, with their numbers
abbrev pub framed_in : InboundCircuit → Framed
framed_in c = record { bytes = c.connect; len = c.core.connect }

abbrev pub chosen_in : InboundCircuit → Chosen
chosen_in c = record { bytes = c.targets; len = c.core.targets }

-- a round opens, or not
abbrev pub made_if : Bool → Framed → Chosen → (own : List ℕ) → Chosen → Decision → Answer
made_if v m t own chosen d =
    record {
      circuit = record {
        core = with_connect d.core (pick v (own_connect (terms_of d.core.settings).limits own).len d.core.connect);
        connect = pick v (own_connect (terms_of d.core.settings).limits own).bytes m.bytes;
        targets = targets_after t.bytes chosen d.window;
      };
      outcome = d.outcome;
      took = d.took;
      window = d.window;
      first = d.first;
      second = d.second;
      third = d.third;
      fourth = d.fourth;
      message = message_of m.bytes d.message;
    }

abbrev pub made : Framed → Chosen → (own : List ℕ) → Chosen → Decision → Answer
made m t own chosen d = made_if (opens d.fourth) m t own chosen d

framed_made : (s : Settings) (m : Framed) (t : Chosen) (own : List ℕ) (chosen : Chosen) (d : Decision)
    → answer_of (framed_by (terms_of s) own d) (connect_after (terms_of s) own m.bytes (framed_by (terms_of s) own d).fourth) (targets_after t.bytes chosen (framed_by (terms_of s) own d).window)
    (message_of m.bytes (framed_by (terms_of s) own d).message)
    ≡ made m t own chosen d
unfolding answer_of framed_by connect_after
framed_made s m t own chosen d = go (opens d.fourth) refl
  where
    framed : Bool → Decision
    framed v = pick v (with_core d (with_connect d.core (own_connect (terms_of d.core.settings).limits own).len)) d

    go : (v : Bool) → opens d.fourth ≡ v
        → answer_of (framed v) (pick (opens (framed v).fourth) (own_connect (terms_of d.core.settings).limits own).bytes m.bytes)
        (targets_after t.bytes chosen (framed v).window)
        (message_of m.bytes (framed v).message)
        ≡ made_if v m t own chosen d
    go true e = rw e
    go false e = rw e

-- nothing is chosen
kept_targets : (t : Chosen) (w : Fate) → targets_after t.bytes t w ≡ t.bytes
unfolding targets_after
kept_targets t Kept = refl
kept_targets t Removed = refl
kept_targets t (Opened until) = refl

module _ (c : InboundCircuit) (h : Host) (own : List ℕ) where
  pub up_made : (peer : PeerId) (conn : ConnectionId) (relayed : Bool)
      → up_answer c h own peer conn relayed ≡ made (framed_in c) (chosen_in c) own (chosen_in c) (up_in c.core h own peer conn relayed)
  unfolding up_answer up_of
  up_made peer conn relayed =
      rw (← framed_made c.core.settings (framed_in c) (chosen_in c) own (chosen_in c) (up_in c.core h own peer conn relayed), kept_targets (chosen_in c) _)

  pub tick_made : tick_answer c h own ≡ made (framed_in c) (chosen_in c) own (chosen_in c) (tick_in c.core h own)
  unfolding tick_answer tick_of
  tick_made = rw (← framed_made c.core.settings (framed_in c) (chosen_in c) own (chosen_in c) (tick_in c.core h own), kept_targets (chosen_in c) _)

  pub input_made : (l : PathLedger) (buffer : List ℕ) (stream : StreamId) (kind : StreamInput) (bytes : List ℕ) (pending : Bool)
      → input_answer c l h own buffer stream kind bytes pending
      ≡ made (framed_in c) (chosen_in c) own (peeked c.core buffer bytes).targets
      (input_in c.core (refuses_punches l c.core.source) h own buffer stream kind bytes pending)
  unfolding input_answer input_of
  input_made l buffer stream kind bytes pending = framed_made c.core.settings (framed_in c) (chosen_in c) own _ _
