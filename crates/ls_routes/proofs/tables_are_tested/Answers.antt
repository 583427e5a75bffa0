use Rattle.ls_routes.proofs.Tested.{tables_are_tested}
use Rattle.ls_routes.proofs.tables_are_tested.Goals as goal

pub returns : goal.returns
returns c = tables_are_tested
