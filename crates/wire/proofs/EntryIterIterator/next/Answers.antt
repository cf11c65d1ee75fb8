-- An entry is the first of those left, and the list behind it has the others.
use Rattle.std.proofs.Common.{sym, subst, ◌∙◌, [], ◌≡◌}
use Rattle.std.specs.Iterator.{YieldsFirstRef}
use Rattle.wire.proofs.EntryByEntry.{gave, gave_none, entries_first, entries_none, nearer}
use Rattle.wire.proofs.EntryIterIterator.next.Goals as goal

pub returns-in_err-address-clause-steps : goal.returns-in_err-address-clause-steps
returns-in_err-address-clause-steps c =
    let none = entries_none _ (gave_none c.self.inside.rest.now c.first_entry.ensures c.in_err-address.was) in
    let e : c.args.self.now ≡ [] = sym c.self.view_is ∙ none in
    subst (λ r. YieldsFirstRef (λ left. left) c.args.self.now r c.args.self.now) (sym c.from_residual.ensures) (e, e)

pub returns-clause-steps : goal.returns-clause-steps
returns-clause-steps c = sym c.self.view_is ∙ entries_first _ (gave c.self.inside.rest.now c.first_entry.ensures c.in_ok-address.was)

pub returns-clause-goes : goal.returns-clause-goes
returns-clause-goes c = nearer (sym c.self.view_is ∙ entries_first _ (gave c.self.inside.rest.now c.first_entry.ensures c.in_ok-address.was))
