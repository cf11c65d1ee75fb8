use Rattle.forms.proofs.Only.{only}
use Rattle.forms.proofs.Back.{back}
use Rattle.form_laws.proofs.form_round_trip.Goals as goal

pub returns : goal.returns
returns c = record { read = back; only = only }
