use Rattle.std.proofs.Common.{arith}
use Rattle.std.proofs.lemmas.Grind.{common_steps}
use Rattle.net_grid.proofs.Places.{one_column_more}
use Rattle.net_grid.proofs.place.add_row.Goals as goal

pub loop-column-preserved : goal.loop-column-preserved
loop-column-preserved c = let more = one_column_more c.args.row c.loop-column.column in grind (arith, common_steps, more)
