-- A ledger and what the calls brought agree, and go on agreeing.
-- Assumes nothing.
use Prim.Native.Nat.{ℕ, ◌+◌, ◌≤◌, ◌<◌, max}
use mathlib.Core.Path.{◌≡◌, refl, sym, ap, ◌∙◌, subst}
use mathlib.Core.Bool.{Bool, true, false}
use mathlib.Core.List.{List, [], ◌∷◌, ◌++◌}
use native.Mathlib.Omega.{arith}
use borrow.Author.Tests.{eqb-true, eqb-false, ne_eqb, eq-eqb, ltb-true, ltb-false, lt-ltb, le-ltb}
use lib.Dec.{eqb, ltb}
use Rattle.std.specs.Prelude.{None, Option, Some, ℕ}
use Rattle.prelude.specs.Lists.{such}
use Rattle.prelude.specs.Choice.{pick, both, either}
use Rattle.ids.specs.declared.PeerId.{PeerId}
use Rattle.ids.specs.declared.ConnectionId.{ConnectionId}
use Rattle.ids.specs.declared.ConnectId.{ConnectId}
use Rattle.ids.specs.declared.NatToken.{NatToken}
use Rattle.path.specs.declared.Attribution.{Attribution}
use Rattle.path.specs.declared.Claim.{Claim}
use Rattle.path.specs.declared.DialPurpose.TheVariants.{Punch}
use Rattle.path.specs.declared.Path.TheVariants.{Punched}
use Rattle.path.specs.declared.Owner.TheVariants.{Attempt}
use Rattle.path.specs.Judged.{by_dial}
use Rattle.kinds.specs.declared.Entry.{Entry}
use Rattle.kinds.specs.declared.Entry.TheVariants.{Dialed, Window, Path, Other as NoEntry}
use Rattle.kinds.specs.declared.Row.{Row}
use Rattle.rows.specs.declared.Keep.TheVariants.{Other, Lasting, Below as KeepBelow, Above as KeepAbove}
use Rattle.rows.specs.Ascending.{Below, Ascending}
use Rattle.rows.specs.Ascending.Below.{none as below_none, more as below_more}
use Rattle.rows.specs.Ascending.Ascending.{none as ascending-none, more as ascending-more}
use Rattle.kinds.specs.Kinds.{entry_of}
use Rattle.rows.specs.Rows.{find_in, keeps_row, kept, without, inserted, crowded}
use Rattle.rows.specs.Rows as row
use Rattle.kinds.proofs.EntryRows.{entry_back}
use Rattle.rows.proofs.Laws.{find_entered, find_inserted_other, find_without, find_without_other}
use Rattle.entries.specs.Entries.{dial_of, dial_at, end_of, end_at, window_open, punch_end, lasts, later, read_as}
use Rattle.ledger.specs.Ledger.{PathLedger, empty_ledger, dials_of, windows_of, paths_of, with_dials, with_windows, with_paths, dial_row, window_row, path_row, refuses_punches, dial_started, expect_punches, end_punches, ticked, attributed, forgotten, judged_by}
use Rattle.ledger_laws.specs.Calls as law
use Rattle.ledger_laws.specs.Laws.{InOrder}
use Rattle.ledger_laws.proofs.Order.{empty_order, all_order}
use Rattle.names.specs.Events.{Event, dialed, got_name, forgot, replied, gave_up, awaited, punched_for, dialing, named, expected}
use Rattle.names.specs.Events as event
use Rattle.names.proofs.Tallies.{count, count_same, count_such, SameKeys, no_keys, keys_without, keys_inserted}

-- each row is a window's
abbrev IsWindow : Entry → Type 0
IsWindow (Dialed d) = ⊥
IsWindow (Window until) = Unit {0}
IsWindow (Path x) = ⊥
IsWindow NoEntry = ⊥

unfoldable pub AllWindows : List Row → Type 0
AllWindows [] = Unit {0}
AllWindows (r ∷ rs) = IsWindow (entry_of r) × AllWindows rs

windows_such : (p : Row → Bool) (rs : List Row) → AllWindows rs → AllWindows (such p rs)
unfolding AllWindows such
windows_such p [] a = tt
windows_such p (r ∷ rs) a = go (p r) (windows_such p rs a.1)
  where
    go : (v : Bool) → AllWindows (such p rs) → AllWindows (pick v (r ∷ such p rs) (such p rs))
    go true i = (a.0, i)
    go false i = i

windows_append : (rs qs : List Row) → AllWindows rs → AllWindows qs → AllWindows (rs ++ qs)
unfolding AllWindows
windows_append [] qs a b = b
windows_append (r ∷ rs) qs a b = (a.0, windows_append rs qs a.1 b)

windows_inserted : (of : PeerId) (until : ℕ) (rs : List Row) → AllWindows rs → AllWindows (inserted (window_row of until) rs)
unfolding AllWindows
windows_inserted of until rs a =
    windows_append (kept (KeepBelow of.0) rs) (window_row of until ∷ kept (KeepAbove of.0) rs)
    (windows_such (keeps_row (KeepBelow of.0)) rs a)
    (subst IsWindow (sym (entry_back of.0 (Window until))) tt, windows_such (keeps_row (KeepAbove of.0)) rs a)

pub record Agrees (l : PathLedger) (es : List Event) : Type 0 where
  pub windows : (peer : PeerId) (n : ℕ) → window_open peer n (windows_of l) ≡ awaited peer n es
  pub dials : (conn : ConnectionId) (other : Attribution) → by_dial (dial_at conn (dials_of l)) other ≡ punched_for conn es other
  pub order : InOrder l
  pub window_keys : SameKeys (windows_of l) (expected es)
  pub dial_keys : SameKeys (dials_of l) (dialing es)
  pub path_keys : SameKeys (paths_of l) (named es)
  pub all_windows : AllWindows (windows_of l)

-- a call of the ledger keeps the order of its rows
ordered : (l : PathLedger) → InOrder l → (c : law.Call) → InOrder (law.after l c)
unfolding law.after_all
ordered l o c = all_order l o (c ∷ [])

pub empty_agrees : Agrees empty_ledger []
unfolding empty_ledger awaited punched_for window_open end_at dial_at by_dial find_in dialing named expected AllWindows
empty_agrees =
    record {
      windows = λ peer n. refl;
      dials = λ conn other. refl;
      order = empty_order;
      window_keys = no_keys;
      dial_keys = no_keys;
      path_keys = no_keys;
      all_windows = tt;
    }

-- ---- windows

-- a window to the later of two ends lasts where one to either does
later_lasts : (n until : ℕ) (d : Option ℕ) → ltb n (later until d) ≡ either (ltb n until) (lasts n d)
later_lasts n until (Some end) = go (ltb end until) refl (ltb n until) refl
  where
    go : (x : Bool) → ltb end until ≡ x → (y : Bool) → ltb n until ≡ y → ltb n (pick x until end) ≡ either y (ltb n end)
    go true e true f = f
    go true e false f =
        let u : end < until = ltb-true end until e in
        let v : until ≤ n = ltb-false n until f in
        f ∙ sym (le-ltb n end (omega arith))
    go false e true f =
        let u : until ≤ end = ltb-false end until e in
        let v : n < until = ltb-true n until f in
        lt-ltb n end (omega arith)
    go false e false f = refl
later_lasts n until None = go (ltb n until)
  where
    go : (y : Bool) → y ≡ either y false
    go true = refl
    go false = refl

-- among the rows of larger keys there is none of the key
none_below : (p : Row → Bool) (k : ℕ) {rs : List Row} → Below k rs → find_in k (such p rs) ≡ None
unfolding such find_in
none_below p k below_none = refl
none_below p k (below_more {r} {rs} h b) = go (p r) (none_below p k b)
  where
    go : (v : Bool) → find_in k (such p rs) ≡ None → find_in k (pick v (r ∷ such p rs) (such p rs)) ≡ None
    go true i = rw (ne_eqb r.key k (λ e. omega arith)) i
    go false i = i

-- an entry that a tick keeps, or drops
entry_kept : (n at : ℕ) (e : Entry) → row.lasts at e ≡ true → lasts n (end_of e) ≡ lasts (max n at) (end_of e)
unfolding end_of
entry_kept n at (Dialed d) h = refl
entry_kept n at (Path x) h = refl
entry_kept n at NoEntry h = refl
entry_kept n at (Window until) h = go (ltb n until) refl
  where
    go : (v : Bool) → ltb n until ≡ v → v ≡ ltb (max n at) until
    go true e =
        let u : n < until = ltb-true n until e in
        let w : at < until = ltb-true at until h in
        sym (lt-ltb (max n at) until (omega arith))
    go false e =
        let u : until ≤ n = ltb-false n until e in
        sym (le-ltb (max n at) until (omega arith))

entry_dropped : (n at : ℕ) (e : Entry) → row.lasts at e ≡ false → false ≡ lasts (max n at) (end_of e)
unfolding end_of
entry_dropped n at (Dialed d) h = refl
entry_dropped n at (Path x) h = refl
entry_dropped n at NoEntry h = refl
entry_dropped n at (Window until) h =
    let u : until ≤ at = ltb-false at until h in
    sym (le-ltb (max n at) until (omega arith))

-- what a tick leaves lasts at a reading where it lasted at that reading and at the tick's
ticked_lasts : (k n at : ℕ) {rs : List Row} → Ascending rs
    → lasts n (read_as end_of None (find_in k (kept (Lasting at) rs))) ≡ lasts (max n at) (read_as end_of None (find_in k rs))
unfolding such find_in
ticked_lasts k n at ascending-none = refl
ticked_lasts k n at (ascending-more {r} {rs} b a) = go (row.lasts at (entry_of r)) refl (eqb r.key k) refl (ticked_lasts k n at a)
  where
    rest : List Row
    rest = such (keeps_row (Lasting at)) rs

    go : (v : Bool) → row.lasts at (entry_of r) ≡ v → (w : Bool) → eqb r.key k ≡ w
        → lasts n (read_as end_of None (find_in k rest)) ≡ lasts (max n at) (read_as end_of None (find_in k rs))
        → lasts n (read_as end_of None (find_in k (pick v (r ∷ rest) rest))) ≡ lasts (max n at) (read_as end_of None (pick w (Some (entry_of r)) (find_in k rs)))
    go true e true f i = rw f (entry_kept n at (entry_of r) e)
    go true e false f i = rw f i
    go false e true f i =
        rw (none_below (keeps_row (Lasting at)) k (subst (λ (j : ℕ). Below j rs) (eqb-true r.key k f) b))
        (entry_dropped n at (entry_of r) e)
    go false e false f i = i

-- what is found of a key decides
opens_by : (peer : PeerId) (n : ℕ) (rs : List Row) {f : Option Entry} → find_in peer.0 rs ≡ f → window_open peer n rs ≡ lasts n (read_as end_of None f)
unfolding window_open end_at
opens_by peer n rs e = ap (λ (f : Option Entry). lasts n (read_as end_of None f)) e

opens_same : (peer : PeerId) (n : ℕ) (rs qs : List Row) → find_in peer.0 rs ≡ find_in peer.0 qs → window_open peer n rs ≡ window_open peer n qs
unfolding window_open end_at
opens_same peer n rs qs e = ap (λ (f : Option Entry). lasts n (read_as end_of None f)) e

dials_by : (conn : ConnectionId) (other : Attribution) (rs : List Row) {f : Option Entry} → find_in conn.0 rs ≡ f
    → by_dial (dial_at conn rs) other ≡ by_dial (read_as dial_of None f) other
unfolding dial_at
dials_by conn other rs e = ap (λ (f : Option Entry). by_dial (read_as dial_of None f) other) e

dials_same : (conn : ConnectionId) (other : Attribution) (rs qs : List Row) → find_in conn.0 rs ≡ find_in conn.0 qs
    → by_dial (dial_at conn rs) other ≡ by_dial (dial_at conn qs) other
unfolding dial_at
dials_same conn other rs qs e = ap (λ (f : Option Entry). by_dial (read_as dial_of None f) other) e

module _ (l : PathLedger) (es : List Event) (a : Agrees l es) (of : PeerId) where
  pub gave_up_agrees : Agrees (end_punches l of) (gave_up of ∷ es)
  unfolding end_punches awaited punched_for law.after dialing named expected
  gave_up_agrees =
      record {
        windows = λ peer n. go peer n (eqb peer.0 of.0) refl;
        dials = a.dials;
        order = ordered l a.order (law.punches_end of);
        window_keys = keys_without of.0 (windows_of l) (expected es) a.window_keys;
        dial_keys = a.dial_keys;
        path_keys = a.path_keys;
        all_windows = windows_such (keeps_row (Other of.0)) (windows_of l) a.all_windows;
      }
    where
      go : (peer : PeerId) (n : ℕ) (v : Bool) → eqb peer.0 of.0 ≡ v
          → window_open peer n (without of.0 (windows_of l)) ≡ pick v false (awaited peer n es)
      go peer n true e =
          opens_by peer n _
          (subst (λ (k : ℕ). find_in k (without of.0 (windows_of l)) ≡ None)
          (sym (eqb-true peer.0 of.0 e)) (find_without of.0 (windows_of l)))
      go peer n false e =
          opens_same peer n _ (windows_of l) (find_without_other peer.0 of.0 (eqb-false peer.0 of.0 e) (windows_of l))
          ∙ a.windows peer n

  pub replied_agrees : (deadline : ℕ) → refuses_punches l of ≡ false → Agrees (expect_punches l of deadline).ledger (replied of deadline ∷ es)
  unfolding expect_punches refuses_punches awaited punched_for law.after punch_end end_at end_of window_open dialing named expected
  replied_agrees deadline f =
      let o : InOrder (expect_punches l of deadline).ledger = ordered l a.order (law.punches_expect of deadline) in
      let r : InOrder (with_windows l (inserted line (windows_of l))) = rw f at o in
      rw f
      (record {
        windows = λ peer n. go peer n (eqb peer.0 of.0) refl;
        dials = a.dials;
        order = r;
        window_keys = keys_inserted line (windows_of l) (expected es) a.window_keys;
        dial_keys = a.dial_keys;
        path_keys = a.path_keys;
        all_windows = windows_inserted of ends (windows_of l) a.all_windows;
      })
    where
      ends : ℕ
      ends = later deadline (end_at of (windows_of l))

      line : Row
      line = window_row of ends

      go : (peer : PeerId) (n : ℕ) (v : Bool) → eqb peer.0 of.0 ≡ v
          → window_open peer n (inserted line (windows_of l)) ≡ either (both v (ltb n deadline)) (awaited peer n es)
      go peer n true e =
          let k : peer.0 ≡ of.0 = eqb-true peer.0 of.0 e in
          opens_by peer n _
          (subst (λ (j : ℕ). find_in j (inserted line (windows_of l)) ≡ Some (Window ends)) (sym k)
          (find_entered of.0 (Window ends) (windows_of l)))
          ∙ later_lasts n deadline (end_at of (windows_of l))
          ∙ ap (either (ltb n deadline))
          (ap (λ (j : ℕ). lasts n (read_as end_of None (find_in j (windows_of l)))) (sym k) ∙ a.windows peer n)
      go peer n false e =
          opens_same peer n _ (windows_of l) (find_inserted_other peer.0 line (eqb-false peer.0 of.0 e) (windows_of l))
          ∙ a.windows peer n

-- each of these rows is the first of its key among all
unfoldable Finds : List Row → List Row → Type 0
Finds all [] = Unit {0}
Finds all (r ∷ rs) = (find_in r.key all ≡ Some (entry_of r)) × Finds all rs

finds_more : (x : Row) (all : List Row) {rs : List Row} → Below x.key rs → Finds all rs → Finds (x ∷ all) rs
unfolding Finds find_in
finds_more x all below_none f = tt
finds_more x all (below_more {r} {rs} h b) f = (rw (ne_eqb x.key r.key (λ e. omega arith)) f.0, finds_more x all b f.1)

ascending_finds : {rs : List Row} → Ascending rs → Finds rs rs
unfolding Finds find_in
ascending_finds ascending-none = tt
ascending_finds (ascending-more {r} {rs} b a) = (rw (eq-eqb r.key r.key refl), finds_more r rs b (ascending_finds a))

-- a row that a tick keeps is that of a key whose window lasts
kept_lasts : (at : ℕ) (p : ℕ → Bool) (all rs : List Row) → Finds all rs → AllWindows rs
    → count (λ (r : Row). both (row.lasts at (entry_of r)) (p r.key)) rs
    ≡ count (λ (r : Row). both (lasts at (read_as end_of None (find_in r.key all))) (p r.key)) rs
unfolding count Finds AllWindows end_of
kept_lasts at p all [] f w = refl
kept_lasts at p all (r ∷ rs) f w =
    rw f.0
    (ap (λ (n : ℕ). pick (both (row.lasts at (entry_of r)) (p r.key)) 1 0 + n) (kept_lasts at p all rs f.1 w.1)
    ∙ ap (λ (v : Bool). pick (both v (p r.key)) 1 0 + count (λ (x : Row). both (lasts at (read_as end_of None (find_in x.key all))) (p x.key)) rs)
    (entry_lasts (entry_of r) w.0))
  where
    entry_lasts : (e : Entry) → IsWindow e → row.lasts at e ≡ lasts at (end_of e)
    entry_lasts (Dialed d) i = absurd i
    entry_lasts (Window until) i = refl
    entry_lasts (Path x) i = absurd i
    entry_lasts NoEntry i = absurd i

module _ (l : PathLedger) (es : List Event) (a : Agrees l es) where
  ticked_keys : (at : ℕ) → SameKeys (kept (Lasting at) (windows_of l)) (such (λ (k : ℕ). awaited (record { 0 = k }) at es) (expected es))
  ticked_keys at = record { same = each }
    where
      open_at : (k : ℕ) → lasts at (read_as end_of None (find_in k (windows_of l))) ≡ awaited (record { 0 = k }) at es
      open_at k = sym (opens_by (record { 0 = k }) at (windows_of l) refl) ∙ a.windows (record { 0 = k }) at

      each : (p : ℕ → Bool)
          → count (λ (r : Row). p r.key) (kept (Lasting at) (windows_of l))
          ≡ count p (such (λ (k : ℕ). awaited (record { 0 = k }) at es) (expected es))
      each p =
          count_such (λ (r : Row). p r.key) (keeps_row (Lasting at)) (windows_of l)
          ∙ kept_lasts at p (windows_of l) (windows_of l) (ascending_finds a.order.windows_ascend) a.all_windows
          ∙ a.window_keys.same (λ (k : ℕ). both (lasts at (read_as end_of None (find_in k (windows_of l)))) (p k))
          ∙ count_same _ (λ (k : ℕ). both (awaited (record { 0 = k }) at es) (p k)) (λ k. ap (λ (v : Bool). both v (p k)) (open_at k)) (expected es)
          ∙ sym (count_such p (λ (k : ℕ). awaited (record { 0 = k }) at es) (expected es))

  pub ticked_agrees : (at : ℕ) → Agrees (ticked l at) (event.ticked at ∷ es)
  unfolding ticked awaited punched_for law.after dialing named expected
  ticked_agrees at =
      record {
        windows = λ peer n. opens_by peer n (kept (Lasting at) (windows_of l)) refl
            ∙ ticked_lasts peer.0 n at a.order.windows_ascend
            ∙ sym (opens_by peer (max n at) (windows_of l) refl)
            ∙ a.windows peer (max n at);
        dials = a.dials;
        order = ordered l a.order (law.tick at);
        window_keys = ticked_keys at;
        dial_keys = a.dial_keys;
        path_keys = a.path_keys;
        all_windows = windows_such (keeps_row (Lasting at)) (windows_of l) a.all_windows;
      }

  pub dialed_agrees : (conn : ConnectionId) (token : NatToken) (id : ConnectId) → crowded conn.0 (dials_of l) ≡ false
      → Agrees (with_dials l (inserted (dial_row conn token (Punch id)) (dials_of l))) (dialed conn id ∷ es)
  unfolding dial_started awaited punched_for law.after by_dial dial_of dialing named expected
  dialed_agrees conn token id f =
      let o : InOrder (dial_started l conn token (Punch id)).ledger = ordered l a.order (law.dial_start conn token (Punch id)) in
      let r : InOrder (with_dials l (inserted line (dials_of l))) = rw f at o in
      record {
        windows = a.windows;
        dials = λ of other. go of other (eqb of.0 conn.0) refl;
        order = r;
        window_keys = a.window_keys;
        dial_keys = keys_inserted line (dials_of l) (dialing es) a.dial_keys;
        path_keys = a.path_keys;
        all_windows = a.all_windows;
      }
    where
      dial : Entry
      dial = Dialed (record { token = token; purpose = Punch id })

      line : Row
      line = dial_row conn token (Punch id)

      go : (of : ConnectionId) (other : Attribution) (v : Bool) → eqb of.0 conn.0 ≡ v
          → by_dial (dial_at of (inserted line (dials_of l))) other
          ≡ pick v (record { path = Punched; owner = Some (Attempt id) }) (punched_for of es other)
      go of other true e =
          dials_by of other _
          (subst (λ (k : ℕ). find_in k (inserted line (dials_of l)) ≡ Some dial)
          (sym (eqb-true of.0 conn.0 e)) (find_entered conn.0 dial (dials_of l)))
      go of other false e =
          dials_same of other _ (dials_of l) (find_inserted_other of.0 line (eqb-false of.0 conn.0 e) (dials_of l))
          ∙ a.dials of other

  pub forgot_agrees : (conn : ConnectionId) → Agrees (forgotten l conn).ledger (forgot conn ∷ es)
  unfolding forgotten awaited punched_for law.after by_dial dialing named expected
  forgot_agrees conn =
      record {
        windows = a.windows;
        dials = λ of other. go of other (eqb of.0 conn.0) refl;
        order = ordered l a.order (law.forget conn);
        window_keys = a.window_keys;
        dial_keys = keys_without conn.0 (dials_of l) (dialing es) a.dial_keys;
        path_keys = keys_without conn.0 (paths_of l) (named es) a.path_keys;
        all_windows = a.all_windows;
      }
    where
      go : (of : ConnectionId) (other : Attribution) (v : Bool) → eqb of.0 conn.0 ≡ v
          → by_dial (dial_at of (without conn.0 (dials_of l))) other ≡ pick v other (punched_for of es other)
      go of other true e =
          dials_by of other _
          (subst (λ (k : ℕ). find_in k (without conn.0 (dials_of l)) ≡ None)
          (sym (eqb-true of.0 conn.0 e)) (find_without conn.0 (dials_of l)))
      go of other false e =
          dials_same of other _ (dials_of l) (find_without_other of.0 conn.0 (eqb-false of.0 conn.0 e) (dials_of l))
          ∙ a.dials of other

  -- a connection gets a name, over an older one
  pub named_agrees : (conn : ConnectionId) (x : Attribution) (peer : PeerId) (circuit : Bool) (claim : Option Claim) (now : ℕ)
      → judged_by l conn peer circuit claim now ≡ Some x → crowded conn.0 (paths_of l) ≡ false
      → Agrees (with_paths l (inserted (path_row conn x) (paths_of l))) (got_name conn ∷ es)
  unfolding attributed awaited punched_for law.after dialing named expected
  named_agrees conn x peer circuit claim now e f =
      let o : InOrder (attributed l conn peer circuit claim now).ledger = ordered l a.order (law.attribute conn peer circuit claim now) in
      let r : InOrder (with_paths l (inserted line (paths_of l))) = rw (e, f) at o in
      record {
        windows = a.windows;
        dials = a.dials;
        order = r;
        window_keys = a.window_keys;
        dial_keys = a.dial_keys;
        path_keys = keys_inserted line (paths_of l) (named es) a.path_keys;
        all_windows = a.all_windows;
      }
    where
      line : Row
      line = path_row conn x
