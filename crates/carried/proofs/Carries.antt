-- What becomes of lent bytes where a decision is carried out, and what a decision keeps where its CONNECT is written.
-- Assumes nothing.
use mathlib.Core.Path.{◌≡◌, refl, sym, ◌∙◌, ap}
use mathlib.Core.Bool.{Bool, true, false}
use mathlib.Core.List.{List, ◌++◌, append-nil}
use Prim.Native.Nat.{ℕ}
use native.Mathlib.Omega.{arith}
use lib.ListN.{length, drop_of_length-le}
use lib.Seq.{sets}
use Rattle.rows.specs.Words.{ledger_words}
use Rattle.prelude.specs.Choice.{pick}
use Rattle.ids.specs.declared.PeerId.{PeerId}
use Rattle.candidates.specs.declared.Terms.{Terms}
use Rattle.frames.specs.Sent.{Framed}
use Rattle.ledger.specs.Ledger.{tables_of, laid, end_punches, expect_punches}
use Rattle.ledger.proofs.Laws.{laid_same}
use Rattle.wire.proofs.Stores.{sets_front}
use Rattle.circuit.specs.declared.decision.Fate.{Fate}
use Rattle.circuit.specs.declared.decision.Decision.{Decision}
use Rattle.frames.specs.Sent.{own_connect}
use Rattle.circuit.specs.declared.decision.Fate.TheVariants.{Kept, Removed, Opened}
use Rattle.carried.specs.Carried.{sent_after, ledger_after, opens, connect_after, with_connect, with_core, framed_by}

-- only the core's number of CONNECT bytes changes
module _ (t : Terms) (own : List ℕ) (d : Decision) where
  pub framed_fourth : (framed_by t own d).fourth ≡ d.fourth
  unfolding framed_by
  framed_fourth = go (opens d.fourth)
    where
      go : (v : Bool) → (pick v (with_core d (with_connect d.core (own_connect t.limits own).len)) d).fourth ≡ d.fourth
      go true = refl
      go false = refl

  pub framed_message : (framed_by t own d).message ≡ d.message
  unfolding framed_by
  framed_message = go (opens d.fourth)
    where
      go : (v : Bool) → (pick v (with_core d (with_connect d.core (own_connect t.limits own).len)) d).message ≡ d.message
      go true = refl
      go false = refl

  pub framed_window : (framed_by t own d).window ≡ d.window
  unfolding framed_by
  framed_window = go (opens d.fourth)
    where
      go : (v : Bool) → (pick v (with_core d (with_connect d.core (own_connect t.limits own).len)) d).window ≡ d.window
      go true = refl
      go false = refl

  pub framed_outcome : (framed_by t own d).outcome ≡ d.outcome
  unfolding framed_by
  framed_outcome = go (opens d.fourth)
    where
      go : (v : Bool) → (pick v (with_core d (with_connect d.core (own_connect t.limits own).len)) d).outcome ≡ d.outcome
      go true = refl
      go false = refl

-- ---- the ledger's window

module _ (source : PeerId) (ws : List ℕ) {w : Fate} where
  pub window_kept : length ws ≡ ledger_words → w ≡ Kept
      → (tables_of ws ≡ ledger_after source (tables_of ws) w) × (ws ≡ laid (ledger_after source (tables_of ws) w) ws)
  unfolding ledger_after
  window_kept h e = rw e (refl, sym (laid_same ws h))

  module _ {zs : List ℕ} where
    pub window_removed : w ≡ Removed → (tables_of zs ≡ end_punches (tables_of ws) source) × (zs ≡ laid (end_punches (tables_of ws) source) ws)
        → (tables_of zs ≡ ledger_after source (tables_of ws) w) × (zs ≡ laid (ledger_after source (tables_of ws) w) ws)
    unfolding ledger_after
    window_removed e p = rw e p

    pub window_opened : {until : ℕ} → w ≡ Opened until
        → (tables_of zs ≡ (expect_punches (tables_of ws) source until).ledger) × (zs ≡ laid (expect_punches (tables_of ws) source until).ledger ws)
        → (tables_of zs ≡ ledger_after source (tables_of ws) w) × (zs ≡ laid (ledger_after source (tables_of ws) w) ws)
    unfolding ledger_after
    window_opened e p = rw e p

-- ---- the CONNECT of a round

module _ (u : Terms) (own connect : List ℕ) (d : Decision) where
  pub connect_written : {x : List ℕ} {f : Framed} → opens d.fourth ≡ true → f ≡ own_connect u.limits own → x ≡ f.bytes
      → (with_core d (with_connect d.core f.len) ≡ framed_by u own d) × (x ≡ connect_after u own connect d.fourth)
  unfolding framed_by connect_after
  connect_written o e g = rw o (ap (λ (y : Framed). with_core d (with_connect d.core y.len)) e, g ∙ ap (λ (y : Framed). y.bytes) e)

  pub connect_stays : opens d.fourth ≡ false → (d ≡ framed_by u own d) × (connect ≡ connect_after u own connect d.fourth)
  unfolding framed_by connect_after
  connect_stays o = rw o (refl, refl)

-- ---- a decision carried out, by terms that are the circuit's

module _ (u : Terms) (own connect sent ws : List ℕ) (source : PeerId) {d e r : Decision} {v : Terms} {x y zs : List ℕ} (same : d ≡ e) (by : v ≡ u)
    (p : (r ≡ framed_by v own d) × ((x ≡ connect_after v own connect d.fourth) × ((y ≡ sent_after connect sent d.message)
    × ((tables_of zs ≡ ledger_after source (tables_of ws) d.window) × (zs ≡ laid (ledger_after source (tables_of ws) d.window) ws))))) where
  fate : d.window ≡ (framed_by u own e).window
  fate = ap (λ (z : Decision). z.window) same ∙ sym (framed_window u own e)

  pub done : (r ≡ framed_by u own e) × ((x ≡ connect_after u own connect (framed_by u own e).fourth) × ((y ≡ sent_after connect sent (framed_by u own e).message)
      × ((tables_of zs ≡ ledger_after source (tables_of ws) (framed_by u own e).window) × (zs ≡ laid (ledger_after source (tables_of ws) (framed_by u own e).window) ws))))
  done = (
    p.0 ∙ ap (framed_by v own) same ∙ ap (λ (z : Terms). framed_by z own e) by,
    (
      p.1.0 ∙ ap (connect_after v own connect) (ap (λ (z : Decision). z.fourth) same ∙ sym (framed_fourth u own e))
          ∙ ap (λ (z : Terms). connect_after z own connect (framed_by u own e).fourth) by,
      (
        p.1.1.0 ∙ ap (sent_after connect sent) (ap (λ (z : Decision). z.message) same ∙ sym (framed_message u own e)),
        (
          p.1.1.1.0 ∙ ap (ledger_after source (tables_of ws)) fate,
          p.1.1.1.1 ∙ ap (λ (z : Fate). laid (ledger_after source (tables_of ws) z) ws) fate,
        ),
      ),
    ),
  )
