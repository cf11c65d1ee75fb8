-- What an input makes of the reply buffer is what the book tells.
-- Assumes nothing.
use mathlib.Core.Path.{◌≡◌, refl, sym, ap, ◌∙◌, subst}
use mathlib.Core.List.{List, [], ◌∷◌}
use Prim.Native.Nat.{ℕ}
use Rattle.std.specs.Prelude.{Err, Ok, Result, ⊤}
use Rattle.prelude.specs.Choice.{pick}
use Rattle.ids.specs.declared.StreamId.{StreamId}
use Rattle.budget.specs.declared.UpgradeBudget.{UpgradeBudget}
use Rattle.candidates.specs.Selection.{Chosen}
use Rattle.frames.specs.Sent.{Framed}
use Rattle.frames.specs.Gathering.{gathered_into}
use Rattle.vocabulary.specs.declared.Host.{Host}
use Rattle.vocabulary.specs.declared.StreamInput.{StreamInput}
use Rattle.vocabulary.specs.declared.StreamInput.TheVariants as i
use Rattle.circuit.specs.declared.state.Phase.{Phase}
use Rattle.circuit.specs.declared.state.ConnectWrite.{ConnectWrite}
use Rattle.circuit.specs.declared.state.ConnectWrite.TheVariants.{Unsent, Held, Sent}
use Rattle.inbound.specs.declared.InboundCircuit.{InboundCircuit}
use Rattle.inputs.specs.Inputs.{awaits_in, awaits, frame_bytes}
use Rattle.inputs.specs.Inputs as inputs
use Rattle.lent.specs.Calls.{buffer_after}
use Rattle.inbound.specs.Circuits.{answer_of, input_answer, input_buffer}
use Rattle.history.specs.Calls.{Call, up, input, tick, wrote, down, is_refused, step_of}
use Rattle.history.specs.Book.{Stage, Book, fresh}
use Rattle.history.specs.Numbers.{went_out, is_data}
use Rattle.history.specs.Demand3.{begun}
use Rattle.history.specs.Refuses.{refusal, turned, next}
use Rattle.history.specs.Tells.{gathers}
use Rattle.history.specs.Answers.{buffer, buffers, buffer_is, buffers_are, BuffersByTheRule}
use Rattle.history.proofs.Made.{framed_in, chosen_in}
use Rattle.history.proofs.Relation.{Begun, whose, core_of, circuit_of, Together, in_handshake, in_exchange_lem, in_window, at_end, Rel}
use Rattle.history.proofs.Run.{begun_rel}
use Rattle.history.proofs.Refuses.{ends_first, step_turned, next_rel}
use Rattle.refusal.specs.declared.Refusal.{Refusal}

went_same : (w : ConnectWrite) → inputs.went_out w ≡ went_out w
went_same Unsent = refl
went_same Held = refl
went_same (Sent at) = refl

data_same : (kind : StreamInput) → inputs.is_data kind ≡ is_data kind
data_same i.Ready = refl
data_same i.Data = refl
data_same i.RemoteWriteClosed = refl
data_same i.Closed = refl

module _ (k : Begun) (g : UpgradeBudget) (m : Framed) (t : Chosen) (h : Host) (deadline rounds : ℕ) (lent : List ℕ) (stream : StreamId)
    (kind : StreamInput) (bytes : List ℕ) where
  -- an accepted input
  awaits_same : (p : Phase) (stage : Stage) → Together k.settings g m t deadline rounds p stage
      → pick (awaits (core_of k p g m.len t.len) h.at stream kind p) (gathered_into bytes lent (frame_bytes p)) lent
      ≡ gathers h lent stream kind bytes stage
  unfolding awaits_in
  awaits_same p stage (in_handshake end) = refl
  awaits_same p stage (in_exchange_lem conn on end count write x) =
      rw (ends_first k.settings g deadline rounds end x, went_same write, data_same kind)
  awaits_same p stage (in_window closes q w x) = refl
  awaits_same p stage (at_end promoted) = refl

  input_gives : (o : Result ⊤ Refusal) (p : Phase) (stage : Stage) → Together k.settings g m t deadline rounds p stage
      → buffer_after (core_of k p g m.len t.len) h.at lent stream kind bytes o ≡ pick (is_refused o) lent
      (gathers h lent stream kind bytes stage)
  unfolding buffer_after
  input_gives (Ok tt) p stage r = awaits_same p stage r
  input_gives (Err why) p stage r = refl

call_gives : (k : Begun) (p : Phase) (g : UpgradeBudget) (m : Framed) (t : Chosen) (b : Book)
    → Together k.settings g m t b.deadline b.rounds p b.stage → (x : Call)
    → buffer (circuit_of k p g m t) x ≡ buffer_is b x (step_of (circuit_of k p g m t) x).refused
unfolding step_of buffer buffer_is input_answer answer_of input_buffer
call_gives k p g m t b r (up l h own peer conn relayed) = refl
call_gives k p g m t b r (input l lent h own stream kind bytes pending) =
    ap (λ (z : List ℕ). z ∷ []) (input_gives k g m t h b.deadline b.rounds lent stream kind bytes _ p b.stage r)
call_gives k p g m t b r (tick l h own) = refl
call_gives k p g m t b r (wrote at conn stream) = refl
call_gives k p g m t b r (down at peer conn) = refl

pub step_gives : (k : Begun) (c : InboundCircuit) (b : Book) → Rel k c b → (x : Call) → buffer c x ≡ buffer_is b x (step_of c x).refused
step_gives k c b r x =
    subst (λ (d : InboundCircuit). buffer d x ≡ buffer_is b x (step_of d x).refused) (sym r.shape)
    (call_gives k c.core.phase c.core.budget (framed_in c) (chosen_in c) b r.together x)

book_gives : (k : Begun) (c : InboundCircuit) (b : Book) → Rel k c b → (x : Call) → buffer c x ≡ buffer_is b x (turned (refusal (whose k) b x))
book_gives k c b r x = step_gives k c b r x ∙ ap (buffer_is b x) (step_turned k c b r x)

all_gives : (k : Begun) (xs : List Call) (c : InboundCircuit) (b : Book) → Rel k c b → buffers c xs ≡ buffers_are k.settings (whose k) b xs
unfolding buffers buffers_are
all_gives k [] c b r = refl
all_gives k (x ∷ xs) c b r =
    rw (book_gives k c b r x)
    (ap (λ (z : List (List (List ℕ))). buffer_is b x (turned (refusal (whose k) b x)) ∷ z)
    (all_gives k xs (step_of c x).circuit (next k.settings (whose k) b x) (next_rel k c b r x)))

pub buffers_by_the_rule : BuffersByTheRule
buffers_by_the_rule source relay circuit s at calls =
    all_gives (record { source = source; relay = relay; circuit = circuit; settings = s }) calls (begun source relay circuit s at) (fresh s at)
    (begun_rel source relay circuit s at)
