use mathlib.Core.Path.{ap, ◌∙◌}
use mathlib.Core.List.{[], ◌∷◌}
use Rattle.text.specs.Printed.{with_text}
use Rattle.text.proofs.Printing.{with_texts}
use Rattle.forms.specs.Forms.{kind_of}
use Rattle.forms.specs.Texts.{value_in, values_from, values_in}
use Rattle.journal_prints.proofs.put_burst.Goals as goal

pub returns : goal.returns
unfolding values_in values_from value_in kind_of
returns c = rw (c.put_byte.ensures, c.put_targets.ensures, c.put_form.ensures) (ap (λ p. with_text p (10 ∷ [])) (with_texts _ _ _) ∙ with_texts _ _ _)
