use Rattle.ls_routes.proofs.Tables.{equal_lookups_are_one_table}
use Rattle.ls_routes.proofs.equal_lookups_are_one_table.Goals as goal

pub returns : goal.returns
returns c = equal_lookups_are_one_table
