use Rattle.std.proofs.Common.{◌≡◌, map, take}
use Rattle.net_grid.specs.Grid.{grid_node}
use Rattle.net_grid.proofs.declared.nodes_of.Given as goal

-- the nodes of the places so far
abbrev pub invariant-loop-place : goal.invariant-loop-place
invariant-loop-place l = l.nodes.items ≡ map grid_node (take l.place-index l.places)
