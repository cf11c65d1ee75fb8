-- Each call is refused with the number that the book gives.
-- Assumes nothing.
use mathlib.Core.Path.{◌≡◌, refl, sym, ap, ◌∙◌, subst}
use mathlib.Core.Bool.{Bool, true, false}
use mathlib.Core.List.{List, [], ◌∷◌}
use Prim.Native.Nat.{ℕ, ◌+◌}
use native.Mathlib.Omega.{arith}
use lib.Dec.{ltb}
use borrow.Author.Tests.{lt-ltb, le-ltb}
use Rattle.std.specs.Prelude.{Err, Ok, Option, Result, ⊤}
use Rattle.prelude.specs.Choice.{pick}
use Rattle.time.specs.Time.{last}
use Rattle.ids.specs.declared.PeerId.{PeerId}
use Rattle.ids.specs.declared.ConnectionId.{ConnectionId}
use Rattle.ids.specs.declared.StreamId.{StreamId}
use Rattle.refusal.specs.declared.Refusal.{Refusal}
use Rattle.refusal.specs.declared.Refusal.TheVariants as why
use Rattle.refusal.specs.Number.{number_of}
use Rattle.budget.specs.declared.UpgradeBudget.{UpgradeBudget}
use Rattle.budget.specs.Budget.{next_deadline}
use Rattle.candidates.specs.Selection.{Chosen}
use Rattle.frames.specs.Sent.{Framed}
use Rattle.ledger.specs.Ledger.{refuses_punches}
use Rattle.vocabulary.specs.declared.Settings.{Settings}
use Rattle.inbound.specs.declared.InboundCircuit.{InboundCircuit}
use Rattle.circuit.specs.declared.state.Phase.{Phase}
use Rattle.vocabulary.specs.declared.Host.{Host}
use Rattle.vocabulary.specs.declared.StreamInput.{StreamInput}
use Rattle.circuit.specs.declared.state.Phase.TheVariants.{Handshaking, Done}
use Rattle.circuit.specs.declared.decision.Decision.{Decision}
use Rattle.circuit.specs.Decisions.{decided_of, quiet_of, refused_of}
use Rattle.circuit.specs.Calls.{begun_of, started_of}
use Rattle.inbound.specs.Circuits.{answer_of, new_answer}
use Rattle.history.specs.Calls.{Call, up, input, tick, wrote, down, answer_to, is_refused, step_of, refusals}
use Rattle.history.specs.Numbers.{offers_pair, opens_window, refused_with, number_in, answered_with}
use Rattle.history.specs.Book.{Stage, Book, fresh, note}
use Rattle.history.specs.Demand3.{begun}
use Rattle.history.specs.Refuses.{offered, completes, refuses, lends_broken, lends_full, refusal, turned, next, numbers, turned_all}
use Rattle.history.specs.Answers.{answers, RefusalsByTheRule, StartByTheRule}
use Rattle.history.proofs.Heard.{heard_same}
use Rattle.history.proofs.Made.{framed_in, chosen_in}
use Rattle.history.proofs.Relation.{Begun, whose, circuit_of, InExchange, Together, in_handshake, in_exchange_lem, in_window, at_end, Rel}
use Rattle.history.proofs.Run.{step_keeps, begun_rel}
use Rattle.history.proofs.TurnedBack.{refused_by_the_rule}

pub ends_first : (s : Settings) (g : UpgradeBudget) (deadline rounds end : ℕ) → InExchange s g deadline rounds end → next_deadline g ≡ end
unfolding next_deadline
ends_first s g deadline rounds end x = rw x.runs (omega (arith, x.ends, x.limits.deadlines))

module _ (k : Begun) (g : UpgradeBudget) (m : Framed) (t : Chosen) (deadline rounds : ℕ) where
  offered_same : (p : Phase) (stage : Stage) → Together k.settings g m t deadline rounds p stage → (o : Option (ConnectionId × StreamId)) → offers_pair p o ≡ offered stage o
  offered_same p stage (in_handshake end) o = refl
  offered_same p stage (in_exchange_lem conn stream end count connect x) o = refl
  offered_same p stage (in_window closes q w x) o = refl
  offered_same p stage (at_end promoted) o = refl

  completes_same : (h : Host) (buffer : List ℕ) (stream : StreamId) (kind : StreamInput) (bytes : List ℕ) (p : Phase) (stage : Stage)
      → Together k.settings g m t deadline rounds p stage
      → opens_window (circuit_of k p g m t) h buffer stream kind bytes p ≡ completes h buffer stream kind bytes stage
  completes_same h buffer stream kind bytes p stage (in_handshake end) = refl
  completes_same h buffer stream kind bytes p stage (in_exchange_lem conn on end count connect x) = rw (ends_first k.settings g deadline rounds end x, heard_same bytes buffer count)
  completes_same h buffer stream kind bytes p stage (in_window closes q w x) = refl
  completes_same h buffer stream kind bytes p stage (at_end promoted) = refl

call_refuses : (k : Begun) (p : Phase) (g : UpgradeBudget) (m : Framed) (t : Chosen) (b : Book)
    → Together k.settings g m t b.deadline b.rounds p b.stage → (x : Call) → refused_with (circuit_of k p g m t) x ≡ refusal (whose k) b x
unfolding refused_with refuses lends_broken lends_full refuses_punches
call_refuses k p g m t b r (up l h own peer conn relayed) = rw (offered_same k g m t b.deadline b.rounds p b.stage r h.offer)
call_refuses k p g m t b r (input l buffer h own stream kind bytes pending) =
    rw (
      offered_same k g m t b.deadline b.rounds p b.stage r h.offer,
      completes_same k g m t b.deadline b.rounds h buffer stream kind bytes p b.stage r,
    )
call_refuses k p g m t b r (tick l h own) = rw (offered_same k g m t b.deadline b.rounds p b.stage r h.offer)
call_refuses k p g m t b r (wrote at conn stream) = refl
call_refuses k p g m t b r (down at peer conn) = refl

pub step_refuses : (k : Begun) (c : InboundCircuit) (b : Book) → Rel k c b → (x : Call) → answered_with c x ≡ refusal (whose k) b x
step_refuses k c b r x =
    refused_by_the_rule c x
    ∙ subst (λ (d : InboundCircuit). refused_with d x ≡ refusal (whose k) b x) (sym r.shape)
    (call_refuses k c.core.phase c.core.budget (framed_in c) (chosen_in c) b r.together x)

-- no refusal has the number 0
pub some_number : (w : Refusal) → turned (number_of w) ≡ true
some_number why.ReplyBufferTooShort = refl
some_number why.OfferInUse = refl
some_number why.HandshakeTooLate = refl
some_number why.LedgerFull = refl
some_number why.BrokenList = refl
some_number why.MessageTooLong = refl
some_number why.OutputTooShort = refl
some_number why.Malformed = refl
some_number why.NoType = refl
some_number why.WrongType = refl
some_number why.UnknownLine = refl
some_number why.NotStarted = refl

refused_number : (o : Result ⊤ Refusal) → is_refused o ≡ turned (number_in o)
refused_number (Ok tt) = refl
refused_number (Err w) = sym (some_number w)

call_turned : (c : InboundCircuit) (x : Call) → (step_of c x).refused ≡ turned (answered_with c x)
unfolding step_of answered_with
call_turned c x = refused_number (answer_to c x).outcome

pub step_turned : (k : Begun) (c : InboundCircuit) (b : Book) → Rel k c b → (x : Call) → (step_of c x).refused ≡ turned (refusal (whose k) b x)
step_turned k c b r x = call_turned c x ∙ ap turned (step_refuses k c b r x)

module _ (k : Begun) where
  -- the book that finds the refusals by itself keeps up with the circuit
  pub next_rel : (c : InboundCircuit) (b : Book) → Rel k c b → (x : Call) → Rel k (step_of c x).circuit (next k.settings (whose k) b x)
  next_rel c b r x =
      subst (λ (v : Bool). Rel k (step_of c x).circuit (pick v b (note k.settings (whose k) b x))) (step_turned k c b r x) (step_keeps k c b r x).rel

  all_numbers : (xs : List Call) (c : InboundCircuit) (b : Book) → Rel k c b → answers c xs ≡ numbers k.settings (whose k) b xs
  unfolding answers numbers
  all_numbers [] c b r = refl
  all_numbers (x ∷ xs) c b r =
      rw (step_refuses k c b r x)
      (ap (λ (z : List ℕ). refusal (whose k) b x ∷ z)
      (all_numbers xs (step_of c x).circuit (next k.settings (whose k) b x) (next_rel c b r x)))

  all_turned : (xs : List Call) (c : InboundCircuit) (b : Book) → Rel k c b → refusals c xs ≡ turned_all (numbers k.settings (whose k) b xs)
  unfolding refusals numbers turned_all
  all_turned [] c b r = refl
  all_turned (x ∷ xs) c b r =
      rw (step_turned k c b r x)
      (ap (λ (z : List Bool). turned (refusal (whose k) b x) ∷ z)
      (all_turned xs (step_of c x).circuit (next k.settings (whose k) b x) (next_rel c b r x)))

pub refusals_by_the_rule : (source relay : PeerId) (circuit : ConnectionId) (s : Settings) (at : ℕ) (calls : List Call)
    → RefusalsByTheRule source relay circuit s at calls
refusals_by_the_rule source relay circuit s at calls =
    record {
      number = all_numbers k calls (begun source relay circuit s at) (fresh s at) (begun_rel source relay circuit s at);
      which = all_turned k calls (begun source relay circuit s at) (fresh s at) (begun_rel source relay circuit s at);
    }
  where
    k : Begun
    k = record { source = source; relay = relay; circuit = circuit; settings = s }

pub start_by_the_rule : (source relay : PeerId) (circuit : ConnectionId) (s : Settings) (at : ℕ) → StartByTheRule source relay circuit s at
unfolding new_answer answer_of started_of begun_of refused_of quiet_of decided_of
start_by_the_rule source relay circuit s at =
    record {
      number = numbered (ltb last (at + s.handshake));
      late = λ h. ap (λ (v : Bool). (started v).core.phase) (lt-ltb last (at + s.handshake) h);
      timely = λ h. ap (λ (v : Bool). (started v).core.phase) (le-ltb last (at + s.handshake) h);
    }
  where
    started : Bool → Decision
    started v =
        pick v (refused_of (begun_of source relay circuit s (Done false)) why.HandshakeTooLate)
        (quiet_of (begun_of source relay circuit s (Handshaking (at + s.handshake))))

    numbered : (v : Bool) → number_in (started v).outcome ≡ pick v 3 0
    numbered true = refl
    numbered false = refl
