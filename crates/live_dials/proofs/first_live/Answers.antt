-- What is found is the connection of the first record that `find` gives.
use mathlib.Core.Path.{◌≡◌, refl, sym, ap, ◌∙◌}
use mathlib.Core.Bool.{Bool, true, false, cond}
use mathlib.Core.List.{List, [], ◌∷◌}
use Rattle.std.proofs.Common.{rules, tests}
use Rattle.std.specs.Prelude.{None, Option, Some, option_map}
use Rattle.std.specs.List.{find}
use Rattle.std.proofs.lemmas.Iterator.{YieldsList-from_slice}
use Rattle.std.proofs.lemmas.Iterator.Search.{find_from_yields_List}
use Rattle.ids.specs.declared.PeerId.{PeerId}
use Rattle.live_dials.specs.declared.Live.{Live}
use Rattle.live_dials.specs.First.{is_peer, first_live}
use Rattle.prelude.specs.Choice.{pick}
use Rattle.live_dials.proofs.first_live.Goals as goal
use Rattle.live_dials.proofs.first_live.Goals.{After-find}

by_find : (ls : List Live) (p : PeerId) → first_live ls p ≡ option_map (λ (l : Live). l.connection) (find (λ (l : Live). is_peer l p) ls)
unfolding first_live
by_find [] p = refl
by_find (l ∷ ls) p = go (is_peer l p) (by_find ls p)
  where
    go : (t : Bool) → first_live ls p ≡ option_map (λ (l : Live). l.connection) (find (λ (l : Live). is_peer l p) ls)
        → pick t (Some l.connection) (first_live ls p) ≡ option_map (λ (l : Live). l.connection) (cond t (Some l) (find (λ (l : Live). is_peer l p) ls))
    go true e = refl
    go false e = e

module _ (ls : List Live) (p : PeerId) {o : Option Live} (e : o ≡ find (λ (l : Live). is_peer l p) ls) where
  at_some : {l : Live} → o ≡ Some l → Some l.connection ≡ first_live ls p
  at_some s = ap (option_map (λ (l : Live). l.connection)) (sym s ∙ e) ∙ sym (by_find ls p)

  at_none : o ≡ None → None ≡ first_live ls p
  at_none s = ap (option_map (λ (l : Live). l.connection)) (sym s ∙ e) ∙ sym (by_find ls p)

found : (c : After-find) → option_map (λ r. r.now) c.find.result ≡ find (λ (l : Live). is_peer l c.args.peer) c.args.live.now
found c = find_from_yields_List (λ (l : Live). is_peer l c.args.peer) _ _ c.find.result c.find.ensures.ran (YieldsList-from_slice c.args.live.now cc) (λ x b q k. search (rules, tests))

pub returns : goal.returns
returns c = at_some c.args.live.now c.args.peer (found (goal.at.returns c).After-find) {l = c.in_ok-first.first.now} (rw c.in_ok-first.was refl)

pub returns-in_err-first : goal.returns-in_err-first
returns-in_err-first c = c.from_residual.ensures ∙ at_none c.args.live.now c.args.peer (found (goal.at.returns-in_err-first c).After-find) (rw c.in_err-first.was refl)
