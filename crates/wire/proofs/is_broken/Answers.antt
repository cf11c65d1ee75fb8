-- What follows an entry is broken just where the list is; where no entry stands, a list is broken unless it is empty.
use Rattle.std.proofs.Common.{not, sym, ap, ◌∙◌}
use Rattle.wire.proofs.EntryByEntry.{gave, gave_none, broken_behind, broken_unless_empty}
use Rattle.wire.proofs.is_broken.Goals as goal

pub loop-behind-preserved : goal.loop-behind-preserved
loop-behind-preserved c = c.loop-behind.invariant ∙ broken_behind _ (gave c.loop-behind.rest.now c.first_entry.ensures c.in-Some.is)

pub returns : goal.returns
returns c = ap not c.is_empty.ensures ∙ broken_unless_empty _ (gave_none c.loop-behind.rest.now c.first_entry.ensures c.in_default.is) ∙ sym c.loop-behind.invariant
