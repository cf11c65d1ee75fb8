-- Every list of calls: circuit and book go on together from call to call.
-- Assumes nothing.
use mathlib.Core.Path.{◌≡◌, refl, sym, ap, ◌∙◌, subst}
use mathlib.Core.Bool.{Bool, true, false}
use mathlib.Core.List.{List, [], ◌∷◌, ◌++◌, append-nil, append_assoc}
use Prim.Native.Nat.{ℕ, ◌+◌}
use lib.Dec.{ltb}
use lib.ListN.{length}
use Rattle.std.specs.Prelude.{Err, Ok, Option}
use Rattle.prelude.specs.Choice.{pick}
use Rattle.time.specs.Time.{last}
use Rattle.ids.specs.declared.PeerId.{PeerId}
use Rattle.ids.specs.declared.ConnectionId.{ConnectionId}
use Rattle.wire.specs.Lists.{broken}
use Rattle.refusal.specs.declared.Refusal.TheVariants.{ReplyBufferTooShort, HandshakeTooLate, BrokenList, OfferInUse}
use Rattle.budget.specs.declared.UpgradeBudget.{UpgradeBudget}
use Rattle.candidates.specs.Selection.{Chosen}
use Rattle.candidates.specs.Selection as selection
use Rattle.frames.specs.Sent.{Framed}
use Rattle.frames.specs.Sent as frame
use Rattle.ledger.specs.Ledger.{refuses_punches}
use Rattle.vocabulary.specs.declared.Settings.{Settings}
use Rattle.inbound.specs.declared.InboundCircuit.{InboundCircuit}
use Rattle.circuit.specs.declared.state.Phase.{Phase}
use Rattle.circuit.specs.declared.state.Phase.TheVariants.{Handshaking, Done}
use Rattle.circuit.specs.declared.state.Core.{Core}
use Rattle.circuit.specs.declared.decision.Decision.{Decision}
use Rattle.circuit.specs.Decisions.{decided_of, quiet_of, refused_of}
use Rattle.checks.specs.Refusals.{in_use, check_of}
use Rattle.circuit.specs.Calls.{unless, begun_of, started_of, wrote_of, down_of}
use Rattle.lent.specs.Calls.{up_in, tick_in, input_in}
use Rattle.inbound.specs.Circuits.{answer_of, new_answer, wrote_answer, down_answer}
use Rattle.history.specs.Calls.{Call, up, input, tick, wrote, down, answered, step_of, datagrams, refusals}
use Rattle.history.specs.Book.{Window, handshaking, over, Book, fresh, current, windows, note, notes}
use Rattle.history.specs.Demand3.{due, begun, windows_of}
use Rattle.history.proofs.Made.{framed_in, chosen_in, made, up_made, tick_made, input_made}
use Rattle.history.proofs.Relation.{Begun, whose, core_of, beside, circuit_of, Together, in_handshake, at_end, Rel, Keeps, refused_keeps}
use Rattle.history.proofs.Tick.{tick_keeps}
use Rattle.history.proofs.Up.{up_keeps, wrote_keeps, down_keeps}
use Rattle.history.proofs.Input.{input_keeps}
use Rattle.ids.specs.declared.StreamId.{StreamId}

-- an answer that is made of a decision on a core
module _ (k : Begun) (m : Framed) (t : Chosen) (own : List ℕ) (chosen : Chosen) (b b' : Book) (c : Core) (r : Rel k (beside c m t) b) where
  -- a call that may be refused; where it is not, its own list is not broken
  checked : (p : Phase) (o : Option (ConnectionId × StreamId)) (d : Decision) → (broken own ≡ false → Keeps k b (answered (made m t own chosen d)) b')
      → Keeps k b (answered (made m t own chosen (unless c d (check_of p o own)))) b'
  unfolding check_of
  checked p o d h = go (broken own) refl (in_use p o)
    where
      go : (v : Bool) → broken own ≡ v → (u : Bool)
          → Keeps k b (answered (made m t own chosen (unless c d (pick v (Err BrokenList) (pick u (Err OfferInUse) (Ok tt)))))) b'
      go true e u = refused_keeps k m t own chosen b b' c BrokenList r
      go false e true = refused_keeps k m t own chosen b b' c OfferInUse r
      go false e false = h e

  checked_input : (short : Bool) (p : Phase) (o : Option (ConnectionId × StreamId)) (d : Decision) → (broken own ≡ false → Keeps k b (answered (made m t own chosen d)) b')
      → Keeps k b (answered (made m t own chosen (pick short (refused_of c ReplyBufferTooShort) (unless c d (check_of p o own))))) b'
  checked_input true p o d h = refused_keeps k m t own chosen b b' c ReplyBufferTooShort r
  checked_input false p o d h = checked p o d h

-- one call
call_keeps : (k : Begun) (p : Phase) (g : UpgradeBudget) (m : Framed) (t : Chosen) (b : Book)
    → Together k.settings g m t b.deadline b.rounds p b.stage → (x : Call)
    → Keeps k b (step_of (circuit_of k p g m t) x) (note k.settings (whose k) b x)
unfolding step_of note up_in tick_in input_in wrote_answer wrote_of down_answer down_of
call_keeps k p g m t b r (up l h own peer conn relayed) =
    rw (up_made (circuit_of k p g m t) h own peer conn relayed)
    (checked k m t own t b (note k.settings (whose k) b (up l h own peer conn relayed)) (core_of k p g m.len t.len)
    (record { shape = refl; together = r }) p h.offer _
    (λ ok. up_keeps k g m t b.deadline b.rounds b.past h own ok t peer conn relayed p b.stage r))
call_keeps k p g m t b r (input l buffer h own stream kind bytes pending) =
    rw (input_made (circuit_of k p g m t) h own l buffer stream kind bytes pending)
    (checked_input k m t own _ b (note k.settings (whose k) b (input l buffer h own stream kind bytes pending))
    (core_of k p g m.len t.len)
    (record { shape = refl; together = r }) (ltb (length buffer) 4098) p h.offer _
    (λ ok. input_keeps k g m t h own ok (refuses_punches l k.source) b.deadline b.rounds
    b.past buffer stream kind bytes pending p b.stage r))
call_keeps k p g m t b r (tick l h own) =
    rw (tick_made (circuit_of k p g m t) h own)
    (checked k m t own t b (note k.settings (whose k) b (tick l h own)) (core_of k p g m.len t.len)
    (record { shape = refl; together = r }) p h.offer _
    (λ ok. tick_keeps k g m t h own ok t b.deadline b.rounds b.past p b.stage r))
call_keeps k p g m t b r (wrote at conn stream) = wrote_keeps k g m t b.deadline b.rounds b.past at conn stream p b.stage r
call_keeps k p g m t b r (down at peer conn) = down_keeps k g m t b.deadline b.rounds b.past conn p b.stage r

pub step_keeps : (k : Begun) (c : InboundCircuit) (b : Book) → Rel k c b → (x : Call) → Keeps k b (step_of c x) (note k.settings (whose k) b x)
step_keeps k c b r x =
    subst (λ (d : InboundCircuit). Keeps k b (step_of d x) (note k.settings (whose k) b x)) (sym r.shape)
    (call_keeps k c.core.phase c.core.budget (framed_in c) (chosen_in c) b r.together x)

-- all calls
run_same : (k : Begun) (xs : List Call) (c : InboundCircuit) (b : Book) → Rel k c b
    → due k.settings (windows b) ++ datagrams c xs
    ≡ due k.settings (windows (notes k.settings (whose k) b xs (refusals c xs)))
unfolding datagrams refusals notes
run_same k [] c b r = append-nil (due k.settings (windows b))
run_same k (x ∷ xs) c b r =
    let t : Keeps k b (step_of c x) (note k.settings (whose k) b x) = step_keeps k c b r x in
    sym (append_assoc (due k.settings (windows b)) (step_of c x).sent (datagrams (step_of c x).circuit xs))
    ∙ rw t.gains (run_same k xs (step_of c x).circuit (pick (step_of c x).refused b (note k.settings (whose k) b x)) t.rel)

-- a circuit has no window at first
no_window : (s : Settings) (at : ℕ) → windows (fresh s at) ≡ []
no_window s at = go (ltb last (at + s.handshake))
  where
    go : (t : Bool) → current (pick t over (handshaking (at + s.handshake))) ≡ []
    go true = refl
    go false = refl

-- a circuit and its book begin together
pub begun_rel : (source relay : PeerId) (circuit : ConnectionId) (s : Settings) (at : ℕ)
    → Rel (record { source = source; relay = relay; circuit = circuit; settings = s }) (begun source relay circuit s at) (fresh s at)
unfolding new_answer answer_of started_of begun_of refused_of quiet_of decided_of
begun_rel source relay circuit s at = go (ltb last (at + s.handshake))
  where
    k : Begun
    k = record { source = source; relay = relay; circuit = circuit; settings = s }

    started : Bool → Decision
    started v =
        pick v (refused_of (begun_of source relay circuit s (Done false)) HandshakeTooLate)
        (quiet_of (begun_of source relay circuit s (Handshaking (at + s.handshake))))

    go : (v : Bool)
        → Rel k (beside (started v).core (frame.packed []) (selection.packed []))
        (record { stage = pick v over (handshaking (at + s.handshake)); deadline = 0; rounds = 0; past = [] })
    go true = record { shape = refl; together = at_end false }
    go false = record { shape = refl; together = in_handshake (at + s.handshake) }

pub same : (source relay : PeerId) (circuit : ConnectionId) (s : Settings) (at : ℕ) (xs : List Call)
    → datagrams (begun source relay circuit s at) xs ≡ due s (windows_of source relay circuit s at xs)
unfolding windows_of due
same source relay circuit s at xs =
    ap (λ (ws : List Window). due s ws ++ datagrams (begun source relay circuit s at) xs) (sym (no_window s at))
    ∙ run_same (record { source = source; relay = relay; circuit = circuit; settings = s }) xs (begun source relay circuit s at) (fresh s at)
    (begun_rel source relay circuit s at)
