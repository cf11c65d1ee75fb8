-- What an input leaves of the bytes lent to it, by what was heard. Assumes nothing.
use mathlib.Core.Path.{◌≡◌, refl, sym, ◌∙◌, ap}
use mathlib.Core.Bool.{Bool, true, false}
use mathlib.Core.List.{List}
use Prim.Native.Nat.{ℕ, ◌<◌, ◌≤◌}
use borrow.Author.Tests.{lt-ltb, le-ltb}
use lib.ListN.{length}
use Rattle.std.specs.Prelude.{Err, None, Ok, Result, Some, ⊤, is_ok}
use Rattle.prelude.specs.Choice.{pick, both}
use Rattle.ids.specs.declared.PeerId.{PeerId}
use Rattle.ids.specs.declared.StreamId.{StreamId}
use Rattle.refusal.specs.declared.Refusal.{Refusal}
use Rattle.refusal.specs.declared.Refusal.TheVariants.{ReplyBufferTooShort}
use Rattle.wire.specs.Frame.{max_frame_size}
use Rattle.candidates.specs.Selection.{Chosen}
use Rattle.candidates.specs.declared.Terms.{Terms}
use Rattle.frames.specs.Gathering.{gathered_into}
use Rattle.ledger.specs.Ledger.{tables_of, laid}
use Rattle.vocabulary.specs.declared.Host.{Host}
use Rattle.vocabulary.specs.declared.StreamInput.{StreamInput}
use Rattle.circuit.specs.declared.decision.Decision.{Decision}
use Rattle.circuit.specs.declared.state.Core.{Core}
use Rattle.lent.specs.declared.reply.Peeked.{Peeked}
use Rattle.circuit.specs.State.{terms_of}
use Rattle.circuit.specs.Decisions.{refused_of}
use Rattle.checks.specs.Refusals.{check_of}
use Rattle.inputs.specs.Inputs.{input_at, awaits, frame_bytes}
use Rattle.lent.specs.Brought.{brought_by}
use Rattle.lent.specs.Replies.{peeked_of}
use Rattle.carried.specs.Carried.{sent_after, ledger_after, connect_after, framed_by, targets_after}
use Rattle.lent.specs.Calls.{peeked, hearing, input_in, buffer_after}
use Rattle.lent.proofs.Awaits.{unheard}
use Rattle.carried.proofs.Carries.{framed_window, framed_outcome, done}

-- a decision carried out, with the targets and the reply buffer of an input
module _ (u : Terms) (own connect sent ws : List ℕ) (source : PeerId) (targets : List ℕ) (q : Chosen) (c : Core) (at : ℕ) (buffer : List ℕ)
    (stream : StreamId) (kind : StreamInput) (bytes : List ℕ) {d e r : Decision} {v : Terms} {x y zs t b : List ℕ}
    (s : (d ≡ e) × ((t ≡ targets_after targets q e.window) × (b ≡ buffer_after c at buffer stream kind bytes e.outcome))) (by : v ≡ u)
    (p : (r ≡ framed_by v own d) × ((x ≡ connect_after v own connect d.fourth) × ((y ≡ sent_after connect sent d.message)
    × ((tables_of zs ≡ ledger_after source (tables_of ws) d.window) × (zs ≡ laid (ledger_after source (tables_of ws) d.window) ws))))) where
  pub done_input : (r ≡ framed_by u own e) × ((x ≡ connect_after u own connect (framed_by u own e).fourth)
      × ((t ≡ targets_after targets q (framed_by u own e).window) × ((y ≡ sent_after connect sent (framed_by u own e).message)
      × ((tables_of zs ≡ ledger_after source (tables_of ws) (framed_by u own e).window)
      × ((zs ≡ laid (ledger_after source (tables_of ws) (framed_by u own e).window) ws)
      × (b ≡ buffer_after c at buffer stream kind bytes (framed_by u own e).outcome))))))
  done_input =
      let k = done u own connect sent ws source s.0 by p in (
        k.0,
        (
          k.1.0,
          (
            s.1.0 ∙ ap (targets_after targets q) (sym (framed_window u own e)),
            (
              k.1.1.0,
              (
                k.1.1.1.0,
                (
                  k.1.1.1.1,
                  s.1.1 ∙ ap (buffer_after c at buffer stream kind bytes) (sym (framed_outcome u own e)),
                ),
              ),
            ),
          ),
        ),
      )

-- ---- an input

module _ (c : Core) (full : Bool) (h : Host) (targets buffer : List ℕ) (stream : StreamId) (kind : StreamInput) (bytes : List ℕ) (pending : Bool) where
  abbrev Heard·by : Decision → List ℕ → List ℕ → Decision → List ℕ → Type 0
  Heard·by d t b e s =
      (d ≡ e) × ((t ≡ targets_after targets (peeked c buffer bytes).targets e.window) × (b ≡ s))

  -- what was peeked at decides
  pub heard_then : {n : ℕ} {v : Terms} {p : Peeked} {f a : Bool} {d : Decision} {t b : List ℕ} → n ≡ frame_bytes c.phase
      → v ≡ terms_of c.settings → p ≡ peeked_of v (brought_by bytes buffer n) → f ≡ full
      → d ≡ input_at c h stream kind pending (Some p.heard) f c.phase → a ≡ is_ok d.outcome
      → b ≡ pick a (gathered_into bytes buffer n) buffer → t ≡ targets_after targets p.targets d.window
      → Heard·by d t b (hearing c full h buffer stream kind bytes pending)
      (pick (is_ok (hearing c full h buffer stream kind bytes pending).outcome) (gathered_into bytes buffer (frame_bytes c.phase)) buffer)
  unfolding hearing
  heard_then {n} {v} {p} {f} {a} {d} {t} {b} i by j k l m o q =
      let u : p ≡ peeked c buffer bytes =
      j ∙ ap (λ (z : Terms). peeked_of z (brought_by bytes buffer n)) by ∙ ap (λ (z : ℕ). peeked_of (terms_of c.settings) (brought_by bytes buffer z)) i in
      let w : d ≡ hearing c full h buffer stream kind bytes pending =
      l ∙ ap (λ (z : Peeked). input_at c h stream kind pending (Some z.heard) f c.phase) u
      ∙ ap (λ (z : Bool). input_at c h stream kind pending (Some (peeked c buffer bytes).heard) z c.phase) k in (
        w,
        (
          q ∙ ap (λ (z : Peeked). targets_after targets z.targets d.window) u
              ∙ ap (λ (z : Decision). targets_after targets (peeked c buffer bytes).targets z.window) w,
          o ∙ ap (λ (z : Bool). pick z (gathered_into bytes buffer n) buffer) (m ∙ ap (λ (z : Decision). is_ok z.outcome) w)
              ∙ ap (λ (z : ℕ). pick (is_ok (hearing c full h buffer stream kind bytes pending).outcome) (gathered_into bytes buffer z) buffer) i,
        ),
      )

  module _ (own : List ℕ) where
    abbrev D : Decision
    D = input_in c full h own buffer stream kind bytes pending

    abbrev Left : Decision → List ℕ → List ℕ → Type 0
    Left d t b = Heard·by d t b D (buffer_after c h.at buffer stream kind bytes D.outcome)

    refused_left : (why : Refusal) {d : Decision} → D ≡ refused_of c why → d ≡ refused_of c why → Left d targets buffer
    unfolding refused_of targets_after buffer_after
    refused_left why {d} e g = rw e (g, (refl, refl))

    pub short_left : {d : Decision} → length buffer < max_frame_size → d ≡ refused_of c ReplyBufferTooShort → Left d targets buffer
    unfolding input_in
    short_left h g = refused_left ReplyBufferTooShort (rw (lt-ltb (length buffer) max_frame_size h)) g

    module _ (long : max_frame_size ≤ length buffer) {o : Result ⊤ Refusal} (check : o ≡ check_of c.phase h.offer own) where
      pub turned_left : {why : Refusal} {d : Decision} → o ≡ Err why → d ≡ refused_of c why → Left d targets buffer
      unfolding input_in
      turned_left {why} {d} e g = refused_left why (rw (le-ltb (length buffer) max_frame_size long, ← check, e)) g

      passed : o ≡ Ok tt → D ≡ hearing c full h buffer stream kind bytes pending
      unfolding input_in
      passed e = rw (le-ltb (length buffer) max_frame_size long, ← check, e)

      pub heard_left : {a : Bool} {d : Decision} {t b : List ℕ} → o ≡ Ok tt → a ≡ awaits c h.at stream kind c.phase → a ≡ true
          → Heard·by d t b (hearing c full h buffer stream kind bytes pending)
          (pick (is_ok (hearing c full h buffer stream kind bytes pending).outcome) (gathered_into bytes buffer (frame_bytes c.phase)) buffer)
          → Left d t b
      unfolding buffer_after
      heard_left {a} {d} {t} {b} e i j p =
          rw (passed e, ← i, j) (p.0, (p.1.0, p.1.1 ∙ ap (λ (z : Bool). pick z (gathered_into bytes buffer (frame_bytes c.phase)) buffer) (with_true (is_ok (hearing c full h buffer stream kind bytes pending).outcome))))
        where
          with_true : (v : Bool) → v ≡ both v true
          with_true true = refl
          with_true false = refl

      pub unheard_left : {a : Bool} {d : Decision} → o ≡ Ok tt → a ≡ awaits c h.at stream kind c.phase → a ≡ false
          → d ≡ input_at c h stream kind pending None false c.phase → Left d targets buffer
      unfolding buffer_after hearing
      unheard_left {a} {d} e i j g =
          let u = unheard c h stream kind pending (Some (peeked c buffer bytes).heard) full c.phase (sym i ∙ j) in
          let v : D ≡ input_at c h stream kind pending None false c.phase = passed e ∙ u.0 in (
            g ∙ sym v,
            (
              sym (u.1 targets (peeked c buffer bytes).targets) ∙ ap (λ (z : Decision). targets_after targets (peeked c buffer bytes).targets z.window) (sym v),
              rw (← i, j) (with_false (is_ok D.outcome)),
            ),
          )
        where
          with_false : (v : Bool) → buffer ≡ pick (both v false) (gathered_into bytes buffer (frame_bytes c.phase)) buffer
          with_false true = refl
          with_false false = refl
