use Rattle.ls_routes.proofs.Places.{same_table_has_no_delta}
use Rattle.ls_routes.proofs.same_table_has_no_delta.Goals as goal

pub returns : goal.returns
returns c = same_table_has_no_delta
