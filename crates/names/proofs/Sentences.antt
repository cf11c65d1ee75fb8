-- What is awaited, and which dial counts, in sentences.
-- Assumes nothing.
use mathlib.Core.Path.{◌≡◌, refl, sym, ap, ◌∙◌, subst}
use mathlib.Core.Bool.{Bool, true, false}
use mathlib.Core.List.{List, [], ◌∷◌, ◌++◌}
use Prim.Native.Nat.{ℕ, ◌<◌, max}
use native.Mathlib.Omega.{arith}
use borrow.Author.Tests.{eqb-true, eqb-false, eq-eqb, ne_eqb, ltb-true, lt-ltb}
use lib.Dec.{eqb, ltb}
use Rattle.prelude.specs.Choice.{pick, both, either}
use Rattle.ids.specs.declared.PeerId.{PeerId}
use Rattle.ids.specs.declared.ConnectionId.{ConnectionId}
use Rattle.path.specs.declared.Attribution.{Attribution}
use Rattle.names.specs.Events.{Event, dialed, got_name, forgot, replied, gave_up, ticked, awaited, punched_for, Lasts, Awaits, AwaitedIs, Untouched, Since, Latest, by_dial, by_forget, FromHistory}
use Rattle.names.specs.Events as event

never : {A : Type 0} → false ≡ true → A
never e = absurd (let z : ◌≡◌ {A = ℕ} 0 1 = cc in omega arith)

-- one event more, behind which it is awaited the same
more : (peer : PeerId) (n m : ℕ) (e : Event) (es : List Event) → ((deadline : ℕ) → m < deadline → n < deadline)
    → ((deadline : ℕ) (since : List Event) → m < deadline → Lasts peer deadline since → Lasts peer deadline (e ∷ since)) → Awaits peer m es → Awaits peer n (e ∷ es)
more peer n m e es lower keeps a =
    record {
      of = a.of;
      deadline = a.deadline;
      since = e ∷ a.since;
      earlier = a.earlier;
      whole = ap (λ (x : List Event). e ∷ x) a.whole;
      same = a.same;
      above = lower a.deadline a.above;
      lasts = keeps a.deadline a.since a.above a.lasts;
    }

there : (es : List Event) (peer : PeerId) (n : ℕ) → awaited peer n es ≡ true → Awaits peer n es
unfolding awaited Lasts
there [] peer n h = never h
there (dialed conn id ∷ es) peer n h = more peer n n (dialed conn id) es (λ d l. l) (λ d s l x. x) (there es peer n h)
there (got_name conn ∷ es) peer n h = more peer n n (got_name conn) es (λ d l. l) (λ d s l x. x) (there es peer n h)
there (forgot conn ∷ es) peer n h = more peer n n (forgot conn) es (λ d l. l) (λ d s l x. x) (there es peer n h)
there (replied of deadline ∷ es) peer n h = go (eqb peer.0 of.0) refl (ltb n deadline) refl (there es peer n) h
  where
    go : (v : Bool) → eqb peer.0 of.0 ≡ v → (w : Bool) → ltb n deadline ≡ w → (awaited peer n es ≡ true → Awaits peer n es)
        → either (both v w) (awaited peer n es) ≡ true → Awaits peer n (replied of deadline ∷ es)
    go true e true f i x =
        record { of = of; deadline = deadline; since = []; earlier = es; whole = refl; same = eqb-true _ _ e; above = ltb-true _ _ f; lasts = tt }
    go true e false f i x = more peer n n (replied of deadline) es (λ d l. l) (λ d s l y. y) (i x)
    go false e w f i x = more peer n n (replied of deadline) es (λ d l. l) (λ d s l y. y) (i x)
there (gave_up of ∷ es) peer n h = go (eqb peer.0 of.0) refl (there es peer n) h
  where
    go : (v : Bool) → eqb peer.0 of.0 ≡ v → (awaited peer n es ≡ true → Awaits peer n es) → pick v false (awaited peer n es) ≡ true
        → Awaits peer n (gave_up of ∷ es)
    go true e i x = never x
    go false e i x = more peer n n (gave_up of) es (λ d l. l) (λ d s l y. (eqb-false _ _ e, y)) (i x)
there (ticked at ∷ es) peer n h =
    more peer n (max n at) (ticked at) es (λ d l. omega arith) (λ d s l y. (omega arith, y)) (there es peer (max n at) h)

module _ (peer of : PeerId) (same : peer.0 ≡ of.0) (deadline : ℕ) (earlier : List Event) where
  back : (since : List Event) (n : ℕ) → n < deadline → Lasts peer deadline since → awaited peer n (since ++ (replied of deadline ∷ earlier)) ≡ true
  unfolding awaited Lasts
  back [] n h k = rw (eq-eqb peer.0 of.0 same, lt-ltb n deadline h)
  back (dialed conn id ∷ es) n h k = back es n h k
  back (got_name conn ∷ es) n h k = back es n h k
  back (forgot conn ∷ es) n h k = back es n h k
  back (replied p end ∷ es) n h k = go (both (eqb peer.0 p.0) (ltb n end)) (back es n h k)
    where
      go : (v : Bool) {x : Bool} → x ≡ true → either v x ≡ true
      go true e = refl
      go false e = e
  back (gave_up p ∷ es) n h k = rw (ne_eqb peer.0 p.0 k.0) (back es n h k.1)
  back (ticked at ∷ es) n h k = back es (max n at) (omega (arith, k.0)) k.1

pub awaited_is : (peer : PeerId) (n : ℕ) (es : List Event) → AwaitedIs peer n es
awaited_is peer n es =
    record {
      there = there es peer n;
      back = λ a. subst (λ (x : List Event). awaited peer n x ≡ true) (sym a.whole) (back peer a.of a.same a.deadline a.earlier a.since n a.above a.lasts);
    }

-- ---- dials

since_more : (conn : ConnectionId) (k : ConnectionId → Event) (e : Event) (es : List Event)
    → ((since : List Event) → Untouched conn since → Untouched conn (e ∷ since)) → Since conn k es → Since conn k (e ∷ es)
since_more conn k e es keeps a =
    record {
      of = a.of;
      since = e ∷ a.since;
      earlier = a.earlier;
      whole = ap (λ (x : List Event). e ∷ x) a.whole;
      same = a.same;
      untouched = keeps a.since a.untouched;
    }

-- an event that does not touch the connection
passes : (conn : ConnectionId) (e : Event) (es : List Event) → ((since : List Event) → Untouched conn since → Untouched conn (e ∷ since))
    → ((other : Attribution) → punched_for conn (e ∷ es) other ≡ punched_for conn es other) → Latest conn es → Latest conn (e ∷ es)
passes conn e es keeps same (by_dial id a f) = by_dial id (since_more conn (λ of. dialed of id) e es keeps a) (λ other. same other ∙ f other)
passes conn e es keeps same (by_forget a f) = by_forget (since_more conn forgot e es keeps a) (λ other. same other ∙ f other)
passes conn e es keeps same (event.never u f) = event.never (keeps es u) (λ other. same other ∙ f other)

latest : (es : List Event) (conn : ConnectionId) → Latest conn es
unfolding punched_for Untouched
latest [] conn = event.never tt (λ other. refl)
latest (dialed of id ∷ es) conn = go (eqb conn.0 of.0) refl (latest es conn)
  where
    go : (v : Bool) → eqb conn.0 of.0 ≡ v → Latest conn es → Latest conn (dialed of id ∷ es)
    go true e i =
        by_dial id (record { of = of; since = []; earlier = es; whole = refl; same = eqb-true _ _ e; untouched = tt }) (λ other. rw e)
    go false e i = passes conn (dialed of id) es (λ since u. (eqb-false _ _ e, u)) (λ other. rw e) i
latest (got_name of ∷ es) conn = passes conn (got_name of) es (λ since u. u) (λ other. refl) (latest es conn)
latest (forgot of ∷ es) conn = go (eqb conn.0 of.0) refl (latest es conn)
  where
    go : (v : Bool) → eqb conn.0 of.0 ≡ v → Latest conn es → Latest conn (forgot of ∷ es)
    go true e i =
        by_forget (record { of = of; since = []; earlier = es; whole = refl; same = eqb-true _ _ e; untouched = tt }) (λ other. rw e)
    go false e i = passes conn (forgot of) es (λ since u. (eqb-false _ _ e, u)) (λ other. rw e) i
latest (replied of end ∷ es) conn = passes conn (replied of end) es (λ since u. u) (λ other. refl) (latest es conn)
latest (gave_up of ∷ es) conn = passes conn (gave_up of) es (λ since u. u) (λ other. refl) (latest es conn)
latest (ticked at ∷ es) conn = passes conn (ticked at) es (λ since u. u) (λ other. refl) (latest es conn)

pub from_history : FromHistory
from_history = record { window = awaited_is; dial = λ conn es. latest es conn }
