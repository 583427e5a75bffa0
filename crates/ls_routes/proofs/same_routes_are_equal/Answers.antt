use Rattle.ls_routes.proofs.SameRoutes.{same_routes_are_equal}
use Rattle.ls_routes.proofs.same_routes_are_equal.Goals as goal

pub returns : goal.returns
returns c = same_routes_are_equal
