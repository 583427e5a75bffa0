use Rattle.std.proofs.Common.{◌≡◌, ◌++◌, drop}
use Rattle.std.specs.List.{flat_map}
use Rattle.net_grid.specs.Grid.{links_from}
use Rattle.net_grid.proofs.declared.links_of.Given as goal

-- the links so far, and those that are left
abbrev pub invariant-loop-place : goal.invariant-loop-place
invariant-loop-place l = l.links.items ++ flat_map (links_from l.size) (drop l.place-index l.places) ≡ flat_map (links_from l.size) l.places
