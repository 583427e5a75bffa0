use Rattle.ls_routes.proofs.Leading.{no_delta_is_same_table}
use Rattle.ls_routes.proofs.no_delta_is_same_table.Goals as goal

pub returns : goal.returns
returns c = no_delta_is_same_table
