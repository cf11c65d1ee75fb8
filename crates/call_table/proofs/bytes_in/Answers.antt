use Rattle.call_table.proofs.Calling.{bytes_none, bytes_many, bytes_cut, bytes_read, none_read}
use mathlib.Core.Path.{◌≡◌}
use mathlib.Core.List.{List, []}
use Prim.Native.Nat.{ℕ}
use Rattle.call_table.specs.Tables.{bytes_in}
use Rattle.call_table.proofs.bytes_in.Goals as goal
use Rattle.call_table.proofs.bytes_in.Goals.{then-end-start-via-then-end-start, then-end-start-via-else-end-start+then-end-start-gt32768}

pub returns-then-end-start : goal.returns-then-end-start
returns-then-end-start c =
    let e : ◌≡◌ {A = List ℕ} [] (bytes_in c.args.line.now c.args.start c.args.end) = elim c.then-end-start.branch [
      | then-end-start-via-then-end-start w ↦ bytes_none _ _ _ c.min-end.ensures w.if-end-start.true
      | then-end-start-via-else-end-start+then-end-start-gt32768 w ↦ bytes_many _ _ _ c.min-end.ensures w.if-end-start-gt32768.true
    ] in
    let r = none_read c.args.line.now c.args.start c.args.end c.args.room.now c.told-room e in
    record { bytes = r.laid; count = r.count; shown = r.shown; within = r.within }

pub returns : goal.returns
returns c =
    let h = c.read_hexadecimal.ensures in
    let e = bytes_cut c.args.line.now c.args.start c.args.end c.min-end.ensures c.if-end-start-gt32768.false in
    let r = bytes_read c.args.line.now c.args.start c.args.end c.args.room.now c.told-room e h.place h.bytes in
    record { bytes = r.laid; count = r.count; shown = r.shown; within = r.within }
