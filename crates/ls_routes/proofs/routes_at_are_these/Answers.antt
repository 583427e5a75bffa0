use Rattle.ls_routes.proofs.Chosen.{routes_at_are_these}
use Rattle.ls_routes.proofs.routes_at_are_these.Goals as goal

pub returns : goal.returns
returns c = routes_at_are_these
