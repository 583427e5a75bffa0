use Rattle.std.proofs.Common.{◌≡◌}
use Rattle.std.specs.List.{flat_map, range_with_len}
use Rattle.net_grid.specs.Grid.{row_of_places}
use Rattle.net_grid.proofs.place.places.Given as goal

-- the places of the rows so far
abbrev pub invariant-loop-row : goal.invariant-loop-row
invariant-loop-row l = l.all.items ≡ flat_map (row_of_places l.size) (range_with_len 0 l.row)
