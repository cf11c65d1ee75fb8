use mathlib.Core.Path.{◌∙◌}
use Rattle.text.proofs.Reading.{same_word}
use Rattle.text.proofs.is_word.Goals as goal

pub returns : goal.returns
returns c = c.eq.ensures ∙ same_word c.args.text.now c.args.word.now
