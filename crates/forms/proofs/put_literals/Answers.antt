use mathlib.Core.Path.{◌≡◌, sym, ◌∙◌}
use mathlib.Core.Bool.{true, false}
use Rattle.std.proofs.Common.{rules, tests}
use Rattle.std.proofs.lemmas.Iterator.{index_from_first, IsFirst-from_position, YieldsList-from_slice}
use Rattle.forms.specs.Forms.{kind_of, is_literal, literals}
use Rattle.forms.proofs.Print.{literals_none, literals_stop, literals_go_on}
use Rattle.forms.proofs.put_literals.Goals as goal

pub returns : goal.returns
returns c =
    let s = c.args.form.now in
    let e = c.unwrap_or-n.ensures
    ∙ sym (index_from_first literals (λ b. is_literal (kind_of b) ≡ false) (λ b. is_literal (kind_of b) ≡ true) (literals_none) literals_stop literals_go_on s c.position.result
    (IsFirst-from_position _ _ _ (λ b. is_literal (kind_of b) ≡ false) (λ b. is_literal (kind_of b) ≡ true) c.position.ensures.ran (YieldsList-from_slice s cc) (λ x q k. search (rules, tests)) (λ x q k. search (rules, tests)))) in
    record { bytes = rw (← e) c.put_text.ensures; count = e }
