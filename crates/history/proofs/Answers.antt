-- Every list of calls: what each call answers is what the book tells of it.
-- Assumes nothing.
use mathlib.Core.Path.{◌≡◌, refl, sym, ap, subst}
use mathlib.Core.Bool.{Bool, true, false}
use mathlib.Core.List.{List, [], ◌∷◌}
use Prim.Native.Nat.{ℕ}
use lib.Dec.{ltb}
use lib.ListN.{length}
use Rattle.std.specs.Prelude.{Err, Ok, Result, ⊤}
use Rattle.prelude.specs.Choice.{pick}
use Rattle.ids.specs.declared.PeerId.{PeerId}
use Rattle.ids.specs.declared.ConnectionId.{ConnectionId}
use Rattle.refusal.specs.declared.Refusal.TheVariants.{ReplyBufferTooShort}
use Rattle.budget.specs.declared.UpgradeBudget.{UpgradeBudget}
use Rattle.candidates.specs.Selection.{Chosen}
use Rattle.frames.specs.Sent.{Framed}
use Rattle.frames.specs.Sent.{own_connect}
use Rattle.ledger.specs.Ledger.{PathLedger}
use Rattle.vocabulary.specs.declared.Settings.{Settings}
use Rattle.inbound.specs.declared.InboundCircuit.{InboundCircuit}
use Rattle.circuit.specs.declared.state.Phase.{Phase}
use Rattle.circuit.specs.declared.state.Core.{Core}
use Rattle.circuit.specs.declared.decision.Decision.{Decision}
use Rattle.circuit.specs.Decisions.{silence, event_of, decided_of, quiet_of, refused_of}
use Rattle.checks.specs.Refusals.{check_of}
use Rattle.circuit.specs.Calls.{unless, wrote_of, down_of}
use Rattle.lent.specs.Calls.{up_in, tick_in, input_in}
use Rattle.inbound.specs.Circuits.{answer_of, up_answer, tick_answer, input_answer, wrote_answer, down_answer}
use Rattle.history.specs.Calls.{Call, up, input, tick, wrote, down, step_of}
use Rattle.history.specs.Book.{Book, fresh}
use Rattle.history.specs.Refuses.{refusal, turned, next}
use Rattle.history.specs.Demand3.{begun}
use Rattle.history.specs.Tells.{Says, Told, nothing, tells, tells_all}
use Rattle.history.specs.Answers.{said, said_all, said_is, back, back_all, left_of, left_is, Noted, AllNoted, told_of, EffectsByTheRule, LedgerByTheRule, OwnList}
use Rattle.history.proofs.Made.{framed_in, chosen_in, made, up_made, tick_made, input_made}
use Rattle.history.proofs.Relation.{Begun, whose, core_of, circuit_of, Together, Rel}
use Rattle.history.proofs.Rounds.{own_bytes}
use Rattle.history.proofs.Run.{begun_rel}
use Rattle.history.proofs.Refuses.{step_turned, next_rel}
use Rattle.history.proofs.Told.{Follows, refused_follows, tick_follows, up_follows}
use Rattle.history.proofs.ToldInput.{input_follows}
use Rattle.refusal.specs.declared.Refusal.{Refusal}

-- a call, whether it was refused, and what is told of it if not
pub record Answers (k : Begun) (c : InboundCircuit) (x : Call) (w : Told) (v : Bool) : Type 0 where
  pub effects : said c x ≡ (pick v nothing w).said
  pub ledgers : back c x ≡ left_of k.source x (pick v nothing w).lot
  pub room : Noted k.source x (pick v nothing w).lot

module _ (source : PeerId) (l : PathLedger) (m : Framed) (t : Chosen) (own : List ℕ) (chosen : Chosen) (c : Core) (w : Told) where
  checked : (d : Decision) → Follows source l (made m t own chosen d) w → (y : Result ⊤ Refusal) → Follows source l (made m t own chosen (unless c d y)) w
  checked d h (Ok tt) = h
  checked d h (Err why) = refused_follows source l m t own chosen c why w

  checked_input : (short : Bool) (d : Decision) → Follows source l (made m t own chosen d) w → (y : Result ⊤ Refusal)
      → Follows source l (made m t own chosen (pick short (refused_of c ReplyBufferTooShort) (unless c d y))) w
  checked_input true d h y = refused_follows source l m t own chosen c ReplyBufferTooShort w
  checked_input false d h y = checked d h y

one : {x y : PathLedger} → x ≡ y → x ∷ [] ≡ y ∷ []
one e = ap (λ (z : PathLedger). z ∷ []) e

call_answers : (k : Begun) (p : Phase) (g : UpgradeBudget) (m : Framed) (t : Chosen) (b : Book)
    → Together k.settings g m t b.deadline b.rounds p b.stage → (x : Call)
    → Answers k (circuit_of k p g m t) x (tells k.settings (whose k) b x) (step_of (circuit_of k p g m t) x).refused
unfolding step_of tells said back left_of Noted up_in tick_in input_in wrote_answer wrote_of down_answer down_of answer_of quiet_of decided_of silence event_of
call_answers k p g m t b r (up l h own peer conn relayed) =
    let f : Follows k.source l (up_answer (circuit_of k p g m t) h own peer conn relayed)
    (tells k.settings (whose k) b (up l h own peer conn relayed)) =
    rw (up_made (circuit_of k p g m t) h own peer conn relayed)
    (checked k.source l m t own t (core_of k p g m.len t.len) _ _
    (up_follows k g m t l h own t b.deadline b.rounds b.past peer conn relayed p b.stage r) (check_of p h.offer own)) in
    record { effects = f.effects; ledgers = one f.ledger; room = f.room }
call_answers k p g m t b r (input l buffer h own stream kind bytes pending) =
    let f : Follows k.source l (input_answer (circuit_of k p g m t) l h own buffer stream kind bytes pending)
    (tells k.settings (whose k) b (input l buffer h own stream kind bytes pending)) =
    rw (input_made (circuit_of k p g m t) h own l buffer stream kind bytes pending)
    (checked_input k.source l m t own _ (core_of k p g m.len t.len) _ (ltb (length buffer) 4098) _
    (input_follows k g m t l h own b.deadline b.rounds b.past buffer stream kind bytes pending p b.stage r)
    (check_of p h.offer own)) in
    record { effects = f.effects; ledgers = one f.ledger; room = f.room }
call_answers k p g m t b r (tick l h own) =
    let f : Follows k.source l (tick_answer (circuit_of k p g m t) h own) (tells k.settings (whose k) b (tick l h own)) =
    rw (tick_made (circuit_of k p g m t) h own)
    (checked k.source l m t own t (core_of k p g m.len t.len) _ _
    (tick_follows k g m t l h own t b.deadline b.rounds b.past p b.stage r) (check_of p h.offer own)) in
    record { effects = f.effects; ledgers = one f.ledger; room = f.room }
call_answers k p g m t b r (wrote at conn stream) = record { effects = refl; ledgers = refl; room = tt }
call_answers k p g m t b r (down at peer conn) = record { effects = refl; ledgers = refl; room = tt }

pub step_answers : (k : Begun) (c : InboundCircuit) (b : Book) → Rel k c b → (x : Call)
    → Answers k c x (tells k.settings (whose k) b x) (step_of c x).refused
step_answers k c b r x =
    subst (λ (d : InboundCircuit). Answers k d x (tells k.settings (whose k) b x) (step_of d x).refused) (sym r.shape)
    (call_answers k c.core.phase c.core.budget (framed_in c) (chosen_in c) b r.together x)

-- the book finds by itself whether the call is refused
book_answers : (k : Begun) (c : InboundCircuit) (b : Book) → Rel k c b → (x : Call)
    → Answers k c x (tells k.settings (whose k) b x) (turned (refusal (whose k) b x))
book_answers k c b r x = subst (Answers k c x (tells k.settings (whose k) b x)) (step_turned k c b r x) (step_answers k c b r x)

-- ---- all calls

module _ (k : Begun) where
  abbrev told_by : Book → Call → Told
  told_by b x = pick (turned (refusal (whose k) b x)) nothing (tells k.settings (whose k) b x)

  all_said : (xs : List Call) (c : InboundCircuit) (b : Book) → Rel k c b → said_all c xs ≡ said_is (tells_all k.settings (whose k) b xs)
  unfolding said_all said_is tells_all
  all_said [] c b r = refl
  all_said (x ∷ xs) c b r =
      rw (book_answers k c b r x).effects
      (ap (λ (z : List (List Says)). (told_by b x).said ∷ z) (all_said xs (step_of c x).circuit (next k.settings (whose k) b x) (next_rel k c b r x)))

  all_back : (xs : List Call) (c : InboundCircuit) (b : Book) → Rel k c b
      → back_all c xs ≡ left_is k.source xs (tells_all k.settings (whose k) b xs)
  unfolding back_all left_is tells_all
  all_back [] c b r = refl
  all_back (x ∷ xs) c b r =
      rw (book_answers k c b r x).ledgers
      (ap (λ (z : List (List PathLedger)). left_of k.source x (told_by b x).lot ∷ z)
      (all_back xs (step_of c x).circuit (next k.settings (whose k) b x) (next_rel k c b r x)))

  all_noted : (xs : List Call) (c : InboundCircuit) (b : Book) → Rel k c b → AllNoted k.source xs (tells_all k.settings (whose k) b xs)
  unfolding AllNoted tells_all
  all_noted [] c b r = tt
  all_noted (x ∷ xs) c b r =
      ((book_answers k c b r x).room, all_noted xs (step_of c x).circuit (next k.settings (whose k) b x) (next_rel k c b r x))

pub effects_by_the_rule : EffectsByTheRule
unfolding told_of
effects_by_the_rule source relay circuit s at calls =
    all_said (record { source = source; relay = relay; circuit = circuit; settings = s }) calls (begun source relay circuit s at) (fresh s at)
    (begun_rel source relay circuit s at)

pub ledger_by_the_rule : (source relay : PeerId) (circuit : ConnectionId) (s : Settings) (at : ℕ) (calls : List Call)
    → LedgerByTheRule source relay circuit s at calls
unfolding told_of
ledger_by_the_rule source relay circuit s at calls =
    record {
      left = all_back k calls (begun source relay circuit s at) (fresh s at) (begun_rel source relay circuit s at);
      noted = all_noted k calls (begun source relay circuit s at) (fresh s at) (begun_rel source relay circuit s at);
    }
  where
    k : Begun
    k = record { source = source; relay = relay; circuit = circuit; settings = s }

pub own_message : (s : Settings) (list : List ℕ) → OwnList s list
unfolding own_connect
own_message s list = record { none = λ e. rw e; message = own_bytes s list }
