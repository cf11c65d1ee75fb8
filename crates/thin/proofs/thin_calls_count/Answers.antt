use Rattle.thin.proofs.Mixed.{as_made}
use Rattle.thin.proofs.thin_calls_count.Goals as goal

pub returns : goal.returns
returns c = λ d calls. as_made calls d
