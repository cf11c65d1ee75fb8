use Rattle.rows.specs.declared.Table.TheVariants.{Dials}
use Rattle.rows.specs.Words.{rows_of}
use Rattle.dials.specs.Dials.{retired_of, closed_of, no_token, no_connection}
use Rattle.dials.proofs.Gathered.{Gathered}
use Rattle.dials.proofs.dropped_of.Given as goal

abbrev pub invariant-loop-i : goal.invariant-loop-i
invariant-loop-i l =
    Gathered no_token (retired_of l.id) (rows_of Dials l.l) l.firsts l.i l.retired × Gathered no_connection (closed_of l.id) (rows_of Dials l.l) l.firsts l.i l.close
