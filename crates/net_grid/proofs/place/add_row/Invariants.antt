use Rattle.std.proofs.Common.{◌≡◌, ◌++◌}
use Rattle.net_grid.specs.Grid.{row_of_places}
use Rattle.net_grid.proofs.place.add_row.Given as goal

-- the places of the columns so far
abbrev pub invariant-loop-column : goal.invariant-loop-column
invariant-loop-column l = l.places.items ≡ l.fn.places.items ++ row_of_places l.column l.row
