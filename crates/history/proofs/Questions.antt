-- What a circuit answers when it is asked is what the book says.
-- Assumes nothing.
use mathlib.Core.Path.{◌≡◌, refl, sym, ap, ◌∙◌, subst}
use mathlib.Core.Bool.{Bool, true, false}
use mathlib.Core.List.{List, [], ◌∷◌}
use Prim.Native.Nat.{ℕ, ◌+◌, min}
use native.Mathlib.Omega.{arith}
use lib.Dec.{ltb, eqb}
use Rattle.std.specs.Prelude.{Some}
use Rattle.prelude.specs.Choice.{pick, both, either, no}
use Rattle.time.specs.Time.{last}
use Rattle.ids.specs.declared.PeerId.{PeerId}
use Rattle.ids.specs.declared.ConnectionId.{ConnectionId}
use Rattle.budget.specs.declared.UpgradeBudget.{UpgradeBudget}
use Rattle.budget.specs.Budget.{next_deadline}
use Rattle.schedule.specs.declared.BlastSchedule.{BlastSchedule}
use Rattle.schedule.specs.declared.BlastSchedule.TheVariants.{Next, Over}
use Rattle.schedule.specs.Schedule.{ahead, next_of}
use Rattle.schedule.proofs.Instants.{instants_some}
use Rattle.candidates.specs.Selection.{Chosen}
use Rattle.frames.specs.Sent.{Framed}
use Rattle.vocabulary.specs.declared.Settings.{Settings}
use Rattle.inbound.specs.declared.InboundCircuit.{InboundCircuit}
use Rattle.circuit.specs.declared.state.Core.{Core}
use Rattle.circuit.specs.declared.state.Phase.{Phase}
use Rattle.circuit.specs.State.{is_done}
use Rattle.questions.specs.Questions.{next_deadline_at, claim_of, promoted, promotes_of}
use Rattle.history.specs.Calls.{Call, step_of}
use Rattle.history.specs.Book.{Window, Stage, Book, fresh}
use Rattle.history.specs.Demand3.{begun}
use Rattle.history.specs.Refuses.{next, next_all}
use Rattle.history.specs.Tells.{is_none}
use Rattle.history.specs.Answers.{who_of}
use Rattle.history.specs.Questions.{waiting, sooner, again, is_over, claims, ran_out, after_all, QuestionsByTheRule}
use Rattle.history.proofs.Made.{framed_in, chosen_in}
use Rattle.history.proofs.Relation.{Begun, whose, core_of, Sound, InWindow, Together, in_handshake, in_exchange_lem, in_window, at_end, Rel}
use Rattle.history.proofs.Refuses.{ends_first, next_rel}
use Rattle.history.proofs.Promotes.{all_promoted, begun_promoted}
use Rattle.history.proofs.Run.{begun_rel}

-- the schedule's next instant, or the window's end
next_same : (i end : ℕ) (q : BlastSchedule) → Sound q → next_of q end ≡ sooner (ahead i q) end
unfolding next_of ahead
next_same i end (Next at until) h = rw (instants_some at i until h) (omega arith)
next_same i end Over h = refl

sooner_min : (ts : List ℕ) (end limit : ℕ) → min (sooner ts end) limit ≡ sooner ts (min end limit)
sooner_min [] end limit = refl
sooner_min (t ∷ ts) end limit = omega arith

idle_next : (s : Settings) (g : UpgradeBudget) (t : Chosen) (deadline rounds closes : ℕ) (q : BlastSchedule) (w : Window)
    → InWindow s g t deadline rounds closes q w → next_deadline g ≡ deadline
unfolding next_deadline
idle_next s g t deadline rounds closes q w x = rw x.idle x.limits.deadlines

module _ (k : Begun) (g : UpgradeBudget) (m : Framed) (t : Chosen) (b : Book) where
  again_same : (p : Phase) (stage : Stage) → Together k.settings g m t b.deadline b.rounds p stage
      → next_deadline_at (core_of k p g m.len t.len) p ≡ again k.settings b stage
  again_same p stage (in_handshake end) = refl
  again_same p stage (in_exchange_lem conn stream end count connect x) =
      ap Some (ends_first k.settings g b.deadline b.rounds end x ∙ omega (arith, x.ends))
  again_same p stage (in_window closes q w x) =
      ap Some
      (rw (idle_next k.settings g t b.deadline b.rounds closes q w x, x.bare, next_same k.settings.interval closes q x.sound, x.stands, x.closes)
      (go (is_none w.list)))
    where
      go : (v : Bool)
          → min (pick v w.end (sooner (waiting k.settings w) w.end)) b.deadline
          ≡ pick v (min w.end b.deadline) (sooner (waiting k.settings w) (min w.end b.deadline))
      go true = refl
      go false = sooner_min (waiting k.settings w) w.end b.deadline
  again_same p stage (at_end promoted) = refl

  done_over : (p : Phase) (stage : Stage) → Together k.settings g m t b.deadline b.rounds p stage → is_done p ≡ is_over stage
  done_over p stage (in_handshake end) = refl
  done_over p stage (in_exchange_lem conn stream end count connect x) = refl
  done_over p stage (in_window closes q w x) = refl
  done_over p stage (at_end promoted) = refl

rel_again : (k : Begun) (c : InboundCircuit) (b : Book) → Rel k c b → next_deadline_at c.core c.core.phase ≡ again k.settings b b.stage
rel_again k c b r =
    subst (λ (d : InboundCircuit). next_deadline_at d.core d.core.phase ≡ again k.settings b b.stage) (sym r.shape)
    (again_same k c.core.budget (framed_in c) (chosen_in c) b c.core.phase b.stage r.together)

rel_claims : (k : Begun) (c : InboundCircuit) (b : Book) → Rel k c b → (conn : ConnectionId) → claim_of c.core conn ≡ claims (whose k) b conn
unfolding claim_of
rel_claims k c b r conn =
    subst (λ (d : InboundCircuit). claim_of d.core conn ≡ claims (whose k) b conn) (sym r.shape)
    (rw (done_over k c.core.budget (framed_in c) (chosen_in c) b c.core.phase b.stage r.together))

rel_all : (k : Begun) (xs : List Call) (c : InboundCircuit) (b : Book) → Rel k c b → Rel k (after_all c xs) (next_all k.settings (whose k) b xs)
unfolding after_all next_all
rel_all k [] c b r = r
rel_all k (x ∷ xs) c b r = rel_all k xs (step_of c x).circuit (next k.settings (whose k) b x) (next_rel k c b r x)

promotes_in : (c : Core) (circuit : ConnectionId) (v : Bool) → c.circuit ≡ circuit → promoted c.phase ≡ v → (conn : ConnectionId)
    → promotes_of c conn ≡ both (eqb conn.0 circuit.0) v
unfolding promotes_of
promotes_in c circuit v f e conn = ap (λ (x : ConnectionId). both (eqb conn.0 x.0) (promoted c.phase)) f ∙ ap (both (eqb conn.0 circuit.0)) e

pub questions_by_the_rule : (source relay : PeerId) (circuit : ConnectionId) (s : Settings) (at : ℕ) (calls : List Call)
    → QuestionsByTheRule source relay circuit s at calls
questions_by_the_rule source relay circuit s at calls =
    let r = rel_all k calls (begun source relay circuit s at) (fresh s at) (begun_rel source relay circuit s at) in
    record { deadline = rel_again k _ _ r; claim = rel_claims k _ _ r; promote = λ conn. promotes_in (after_all (begun source relay circuit s at) calls).core circuit (no (either (ltb last (at + s.handshake)) over)) (ap (λ (c : InboundCircuit). c.core.circuit) r.shape) phases conn }
  where
    k : Begun
    k = record { source = source; relay = relay; circuit = circuit; settings = s }

    no_either : (u v : Bool) → pick v false (no u) ≡ no (either u v)
    no_either true true = refl
    no_either true false = refl
    no_either false true = refl
    no_either false false = refl

    over : Bool
    over = ran_out s (who_of source relay circuit) (fresh s at) calls

    phases : promoted (after_all (begun source relay circuit s at) calls).core.phase ≡ no (either (ltb last (at + s.handshake)) over)
    phases =
        all_promoted k calls (begun source relay circuit s at) (fresh s at) (begun_rel source relay circuit s at)
        ∙ ap (pick over false) (begun_promoted source relay circuit s at)
        ∙ no_either (ltb last (at + s.handshake)) over
