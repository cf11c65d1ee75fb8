use mathlib.Core.Path.{ap, ◌∙◌}
use Prim.Native.Nat.{◌+◌}
use native.Mathlib.Omega.{arith}
use Rattle.std.proofs.lemmas.Bool.Decides.{nat_tests}
use Rattle.std.proofs.lemmas.List.{get_or-take, get_or-drop}
use Rattle.address.specs.Multiaddr.{has_form, ends_well}
use Rattle.address.proofs.Digits.{rest_of}
use Rattle.address.proofs.has_form.Goals as goal

pub returns-then-matches : goal.returns-then-matches
unfolding has_form
returns-then-matches c =
    let e = c.ends_well.ensures ∙ ap ends_well (rest_of c.args.s.now (c.args.n + 7)) in
    grind (arith, nat_tests, get_or-take, get_or-drop)

pub returns-else-matches : goal.returns-else-matches
unfolding has_form
returns-else-matches c = grind (arith, nat_tests, get_or-take, get_or-drop)
