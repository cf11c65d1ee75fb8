use mathlib.Core.Path.{◌≡◌, refl, ap, ◌∙◌}
use mathlib.Core.List.{List, []}
use Prim.Native.Nat.{ℕ}
use Rattle.std.proofs.lemmas.Iterator.Consumers.{nth_from_yields_List, YieldsList-from_rest}
use Rattle.std.proofs.lemmas.Option.{unwrap_or-slice_get}
use Rattle.std.specs.Prelude.{None, Option, Some}
use Rattle.std.specs.Borrow.{Bor}
use Rattle.std.specs.Option.{option_map, unwrap_or}
use Rattle.call_table.specs.Tables.{parts}
use Rattle.call_table.proofs.part_of.Goals as goal

-- the bytes of what is unwrapped
shown : (r : Option (Bor (List ℕ))) (d : Bor (List ℕ)) → (unwrap_or r d).now ≡ unwrap_or (option_map (λ (x : Bor (List ℕ)). x.now) r) d.now
shown (Some x) d = refl
shown None d = refl

pub returns : goal.returns
returns c =
    let e = nth_from_yields_List _ _ c.args.k c.nth.ensures.ran (YieldsList-from_rest (parts c.args.separator c.args.s.now) c.cut.ensures) in
    ap (λ (x : Bor (List ℕ)). x.now) c.unwrap_or.ensures ∙ shown c.nth.result _ ∙ ap (λ r. unwrap_or r []) e ∙ unwrap_or-slice_get (parts c.args.separator c.args.s.now) c.args.k []
