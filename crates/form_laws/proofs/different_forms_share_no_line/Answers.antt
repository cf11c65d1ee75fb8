use Rattle.forms.proofs.Tables.{share_no_line}
use Rattle.form_laws.proofs.different_forms_share_no_line.Goals as goal

pub returns : goal.returns
returns c = share_no_line
