use Rattle.std.proofs.Common.{inl, ap, arith, length}
use Rattle.wire.proofs.EntryByEntry.{entries_few}
use Rattle.library_calls.proofs.messages.list.Goals as goal

pub count-n-requires-clause-fits : goal.count-n-requires-clause-fits
count-n-requires-clause-fits c = inl (omega (arith, ap length c.entries.ensures, entries_few c.args.bytes.now))
