-- What is found for each row is what the definition over the ledger asks for. Assumes nothing.
use Prim.Native.Nat.{◌-◌}
use mathlib.Core.Path.{◌≡◌, refl, ap, ◌∙◌}
use mathlib.Core.List.{List, [], ◌∷◌, ◌++◌, map, map-append}
use lib.ListN.{length, replicate}
use Rattle.ids.specs.declared.PeerId.{PeerId}
use Rattle.ids.specs.declared.ConnectId.{ConnectId}
use Rattle.kinds.specs.declared.Row.{Row}
use Rattle.rows.specs.Rows.{capacity}
use Rattle.ids.specs.declared.ConnectionId.{ConnectionId}
use Rattle.std.specs.Prelude.{Option}
use Rattle.dials.specs.Dials.{asked_of, first_for, pairs}
use Rattle.ledger.specs.Ledger.{PathLedger, aborted, aborted_with, aborted_dials}
use Rattle.dials.proofs.Each.{pairs_map}
use Rattle.live_dials.specs.declared.Live.{Live}
use Rattle.live_dials.specs.First.{first_live}
use Rattle.live_dials.specs.Asking.{asked_rows, firsts_for}

same_rows : (ls : List Live) (target : PeerId) (rs : List Row) → map (first_live ls) (map (asked_of target) rs) ≡ map (first_for target (first_live ls)) rs
unfolding first_for
same_rows ls target [] = refl
same_rows ls target (r ∷ rs) = rw (same_rows ls target rs)

pub same_abort : (l : PathLedger) (id : ConnectId) (target : PeerId) (ls : List Live)
    → aborted_with l id (firsts_for l.dials target ls) ≡ aborted_dials l id target (first_live ls)
unfolding aborted_with aborted_dials asked_rows
same_abort l id target ls =
    let behind = replicate (capacity - length (map (asked_of target) l.dials)) target in
    ap (λ (fs : List (Option ConnectionId)). aborted l id (pairs l.dials fs)) (map-append (first_live ls) (map (asked_of target) l.dials) behind ∙ ap (λ (fs : List (Option ConnectionId)). fs ++ map (first_live ls) behind) (same_rows ls target l.dials))
    ∙ ap (aborted l id) (pairs_map (first_for target (first_live ls)) l.dials (map (first_live ls) behind))
