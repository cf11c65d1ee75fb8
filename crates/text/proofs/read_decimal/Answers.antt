use mathlib.Core.Path.{◌∙◌}
use Rattle.std.proofs.lemmas.Bool.Decides.{nat_tests}
use native.Mathlib.Omega.{arith}
use Rattle.text.proofs.Reading.{no_number, one_digit, leading_zero, many_digits}
use Rattle.text.proofs.read_decimal.Goals as goal
use Rattle.text.proofs.read_decimal.Goals.{in_default-via-then-text-lt2, in_default-via-else-text-lt2+in_default-1}

pub returns-in_default : goal.returns-in_default
returns-in_default c =
    c.read_digits.ensures
    ∙ elim c.in_default.branch [
      | in_default-via-then-text-lt2 w ↦ one_digit c.args.text.now (grind (arith, nat_tests)) (grind (arith, nat_tests))
      | in_default-via-else-text-lt2+in_default-1 w ↦ many_digits c.args.text.now (grind (arith, nat_tests)) (grind (arith, nat_tests))
    ]

pub returns-in-empty : goal.returns-in-empty
returns-in-empty c = no_number c.args.text.now c.in-empty.len_below

pub returns-in-empty-2 : goal.returns-in-empty-2
returns-in-empty-2 c = leading_zero c.args.text.now c.in-empty.len_at_least (omega arith)
