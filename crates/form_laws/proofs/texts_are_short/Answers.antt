use Rattle.forms.proofs.Room.{text_short}
use Rattle.form_laws.proofs.texts_are_short.Goals as goal

pub returns : goal.returns
returns c = text_short
