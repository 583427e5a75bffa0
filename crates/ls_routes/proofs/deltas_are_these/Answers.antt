use Rattle.ls_routes.proofs.Deltas.{deltas_are_these}
use Rattle.ls_routes.proofs.deltas_are_these.Goals as goal

pub returns : goal.returns
returns c = deltas_are_these
