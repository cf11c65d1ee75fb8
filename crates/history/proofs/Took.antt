-- Whether each answer took a connection is what the book tells.
-- Assumes nothing.
use mathlib.Core.Path.{◌≡◌, refl, sym, ap, ◌∙◌, subst}
use mathlib.Core.Bool.{Bool, true, false}
use mathlib.Core.List.{List, [], ◌∷◌}
use Prim.Native.Nat.{ℕ}
use lib.Dec.{eqb}
use Rattle.prelude.specs.Choice.{pick, both}
use Rattle.ids.specs.declared.PeerId.{PeerId}
use Rattle.ids.specs.declared.ConnectionId.{ConnectionId}
use Rattle.budget.specs.declared.UpgradeBudget.{UpgradeBudget}
use Rattle.candidates.specs.Selection.{Chosen}
use Rattle.frames.specs.Sent.{Framed}
use Rattle.ledger.specs.Ledger.{refuses_punches}
use Rattle.circuit.specs.declared.state.Core.{Core}
use Rattle.circuit.specs.declared.state.Phase.{Phase}
use Rattle.circuit.specs.declared.decision.Decision.{Decision}
use Rattle.inbound.specs.declared.InboundCircuit.{InboundCircuit}
use Rattle.circuit.specs.Decisions.{decided_of, quiet_of, refused_of}
use Rattle.upgrade.specs.Ups.{took_of}
use Rattle.circuit.specs.Calls.{wrote_of, down_of}
use Rattle.inbound.specs.Circuits.{answer_of, wrote_answer, down_answer}
use Rattle.history.specs.Calls.{Call, up, input, tick, wrote, down, answer_to, is_refused, step_of}
use Rattle.history.specs.Book.{Stage, Book, fresh}
use Rattle.history.specs.Demand3.{begun}
use Rattle.history.specs.Refuses.{refusal, turned, next}
use Rattle.history.specs.Tells.{up_takes, takes, takes_all}
use Rattle.history.specs.Answers.{took_all, TookByTheRule}
use Rattle.history.proofs.Made.{framed_in, chosen_in, up_made, tick_made, input_made}
use Rattle.history.proofs.Relation.{Begun, whose, core_of, circuit_of, Together, in_handshake, in_exchange_lem, in_window, at_end, Rel}
use Rattle.history.proofs.Run.{begun_rel}
use Rattle.history.proofs.Refusals.{Fair, fair, refused, up_fair, tick_fair, input_fair}
use Rattle.history.proofs.Refuses.{step_turned, next_rel}

-- a refused call takes nothing
fair_took : (c : Core) (v : Bool) (d : Decision) → Fair c v d → d.took ≡ pick (is_refused d.outcome) false v
unfolding refused_of
fair_took c v d (fair d₂ e u) = rw e u
fair_took c v d (refused why) = refl

-- the circuit takes what the book takes
takes_same : (k : Begun) (g : UpgradeBudget) (m : Framed) (t : Chosen) (deadline rounds : ℕ) (peer : PeerId) (conn : ConnectionId)
    (relayed : Bool)
    (p : Phase) (stage : Stage) → Together k.settings g m t deadline rounds p stage
    → took_of (core_of k p g m.len t.len) peer conn relayed ≡ both (eqb peer.0 k.source.0) (up_takes (whose k) relayed conn stage)
unfolding took_of
takes_same k g m t deadline rounds peer conn relayed p stage (in_handshake end) = refl
takes_same k g m t deadline rounds peer conn relayed p stage (in_exchange_lem on stream end count connect x) = refl
takes_same k g m t deadline rounds peer conn relayed p stage (in_window until q w x) = refl
takes_same k g m t deadline rounds peer conn relayed p stage (at_end promoted) = go (eqb peer.0 k.source.0)
  where
    go : (v : Bool) → false ≡ both v false
    go true = refl
    go false = refl

call_took : (k : Begun) (p : Phase) (g : UpgradeBudget) (m : Framed) (t : Chosen) (b : Book)
    → Together k.settings g m t b.deadline b.rounds p b.stage → (x : Call)
    → (answer_to (circuit_of k p g m t) x).took ≡ pick (step_of (circuit_of k p g m t) x).refused false (takes (whose k) b x)
unfolding step_of takes wrote_answer wrote_of down_answer down_of answer_of quiet_of decided_of
call_took k p g m t b r (up l h own peer conn relayed) =
    rw (up_made (circuit_of k p g m t) h own peer conn relayed, ← takes_same k g m t b.deadline b.rounds peer conn relayed p b.stage r)
    (fair_took _ _ _ (up_fair (core_of k p g m.len t.len) h own peer conn relayed))
call_took k p g m t b r (input l buffer h own stream kind bytes pending) =
    rw (input_made (circuit_of k p g m t) h own l buffer stream kind bytes pending)
    (fair_took _ _ _ (input_fair (core_of k p g m.len t.len) h own (refuses_punches l k.source) buffer stream kind bytes pending))
call_took k p g m t b r (tick l h own) =
    rw (tick_made (circuit_of k p g m t) h own) (fair_took _ _ _ (tick_fair (core_of k p g m.len t.len) h own))
call_took k p g m t b r (wrote at conn stream) = refl
call_took k p g m t b r (down at peer conn) = refl

-- the book finds by itself whether the call is refused
book_took : (k : Begun) (c : InboundCircuit) (b : Book) → Rel k c b → (x : Call)
    → (answer_to c x).took ≡ pick (turned (refusal (whose k) b x)) false (takes (whose k) b x)
book_took k c b r x =
    subst (λ (d : InboundCircuit). (answer_to d x).took ≡ pick (step_of d x).refused false (takes (whose k) b x)) (sym r.shape)
    (call_took k c.core.phase c.core.budget (framed_in c) (chosen_in c) b r.together x)
    ∙ ap (λ (v : Bool). pick v false (takes (whose k) b x)) (step_turned k c b r x)

all_took : (k : Begun) (xs : List Call) (c : InboundCircuit) (b : Book) → Rel k c b → took_all c xs ≡ takes_all k.settings (whose k) b xs
unfolding took_all takes_all
all_took k [] c b r = refl
all_took k (x ∷ xs) c b r =
    rw (book_took k c b r x)
    (ap (λ (z : List Bool). pick (turned (refusal (whose k) b x)) false (takes (whose k) b x) ∷ z)
    (all_took k xs (step_of c x).circuit (next k.settings (whose k) b x) (next_rel k c b r x)))

pub took_by_the_rule : TookByTheRule
took_by_the_rule source relay circuit s at calls =
    all_took (record { source = source; relay = relay; circuit = circuit; settings = s }) calls (begun source relay circuit s at) (fresh s at)
    (begun_rel source relay circuit s at)
