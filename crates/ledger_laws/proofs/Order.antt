-- The tables stay ascending over calls from the empty ledger. Assumes nothing.
-- what an abort leaves of the dials are some of them
use mathlib.Core.Path.{◌≡◌, refl, ap, sym, subst}
use mathlib.Core.Bool.{Bool, true, false}
use mathlib.Core.List.{List, [], ◌∷◌, ◌++◌, map}
use Rattle.std.specs.Prelude.{Err, None, Ok, Option, Result, Some}
use Rattle.prelude.specs.Lists.{such}
use Rattle.prelude.specs.Choice.{pick}
use Rattle.ids.specs.declared.ConnectId.{ConnectId}
use Rattle.ids.specs.declared.ConnectionId.{ConnectionId}
use Rattle.kinds.specs.declared.Row.{Row}
use Rattle.rows.specs.Rows.{crowded}
use Rattle.rows.specs.Ascending.{Ascending}
use Rattle.rows.specs.Ascending.Ascending.{none}
use Rattle.rows.proofs.Laws.{ascending_such, ascending_inserted}
use Rattle.dials.specs.declared.Fate.{Fate}
use Rattle.dials.specs.declared.Fate.TheVariants.{Stays, Goes, Closes}
use Rattle.dials.specs.Dials.{each, stays, fate_at, left_by, left_of, first_for}
use Rattle.ledger.specs.Ledger.{PathLedger, Attributed, empty_ledger, dials_of, paths_of, judged_by, recorded, full_or, refuses_punches, dial_started, finish_dial, aborted_dials, expect_punches, end_punches, ticked, attributed, forgotten}
use Rattle.refusal.specs.declared.Refusal.TheVariants.{LedgerFull}
use Rattle.ledger_laws.specs.Calls.{Call, after, after_all}
use Rattle.ledger_laws.specs.Calls.Call.{dial_start, dial_finish, dials_abort, punches_expect, punches_end, tick, attribute, forget}
use Rattle.ledger_laws.specs.Laws.{InOrder}
use Rattle.path.specs.declared.Attribution.{Attribution}
use Rattle.refusal.specs.declared.Refusal.{Refusal}

left_such : (id : ConnectId) (g : Row → Option ConnectionId) (rs : List Row) → each (left_of id) (map (λ (r : Row). (r, g r)) rs) ≡ such (λ (r : Row). stays (fate_at id r (g r))) rs
unfolding each such stays
left_such id g [] = refl
left_such id g (r ∷ rs) = go (fate_at id r (g r)) (left_such id g rs)
  where
    rest : List Row
    rest = each (left_of id) (map (λ (x : Row). (x, g x)) rs)

    go : (f : Option Fate) → rest ≡ such (λ (x : Row). stays (fate_at id x (g x))) rs
        → left_by r f ++ rest ≡ pick (stays f) (r ∷ such (λ (x : Row). stays (fate_at id x (g x))) rs) (such (λ (x : Row). stays (fate_at id x (g x))) rs)
    go None h = ap (λ (l : List Row). r ∷ l) h
    go (Some (Stays token)) h = ap (λ (l : List Row). r ∷ l) h
    go (Some (Goes token)) h = h
    go (Some (Closes token)) h = h

module _ {l : PathLedger} (o : InOrder l) where
  full_or_lem : {changed : PathLedger} (full : Bool) → InOrder changed → InOrder (full_or full l changed).ledger
  full_or_lem true c = o
  full_or_lem false c = c

  full_or_named : {changed : PathLedger} (a b : Result (Option Attribution) Refusal) (full : Bool) → InOrder changed
      → InOrder (pick {A = Attributed} full (record { ledger = l; answer = a }) (record { ledger = changed; answer = b })).ledger
  full_or_named a b true c = o
  full_or_named a b false c = c

  named : (conn : ConnectionId) (found : Option Attribution) → InOrder (recorded l conn found).ledger
  named conn None = o
  named conn (Some a) =
      full_or_named (Err LedgerFull) (Ok (Some a)) (crowded conn.0 (paths_of l)) (record { dials_ascend = o.dials_ascend; windows_ascend = o.windows_ascend; paths_ascend = ascending_inserted _ o.paths_ascend })

  keeps_order : (c : Call) → InOrder (after l c)
  unfolding after dial_started finish_dial aborted_dials expect_punches end_punches ticked attributed forgotten
  keeps_order (dial_start conn token purpose) =
      full_or_lem (crowded conn.0 (dials_of l)) (record { dials_ascend = ascending_inserted _ o.dials_ascend; windows_ascend = o.windows_ascend; paths_ascend = o.paths_ascend })
  keeps_order (dial_finish conn) = record { dials_ascend = ascending_such _ o.dials_ascend; windows_ascend = o.windows_ascend; paths_ascend = o.paths_ascend }
  keeps_order (dials_abort id target first) =
      record { dials_ascend = subst Ascending (sym (left_such id (first_for target first) (dials_of l))) (ascending_such _ o.dials_ascend); windows_ascend = o.windows_ascend; paths_ascend = o.paths_ascend }
  keeps_order (punches_expect peer until) =
      full_or_lem (refuses_punches l peer) (record { dials_ascend = o.dials_ascend; windows_ascend = ascending_inserted _ o.windows_ascend; paths_ascend = o.paths_ascend })
  keeps_order (punches_end peer) = record { dials_ascend = o.dials_ascend; windows_ascend = ascending_such _ o.windows_ascend; paths_ascend = o.paths_ascend }
  keeps_order (tick now) = record { dials_ascend = o.dials_ascend; windows_ascend = ascending_such _ o.windows_ascend; paths_ascend = o.paths_ascend }
  keeps_order (attribute conn peer circuit claim now) = named conn (judged_by l conn peer circuit claim now)
  keeps_order (forget conn) = record { dials_ascend = ascending_such _ o.dials_ascend; windows_ascend = o.windows_ascend; paths_ascend = ascending_such _ o.paths_ascend }

pub empty_order : InOrder empty_ledger
unfolding empty_ledger
empty_order = record { dials_ascend = none; windows_ascend = none; paths_ascend = none }

pub all_order : (l : PathLedger) → InOrder l → (cs : List Call) → InOrder (after_all l cs)
unfolding after_all
all_order l o [] = o
all_order l o (c ∷ cs) = all_order (after l c) (keeps_order o c) cs
