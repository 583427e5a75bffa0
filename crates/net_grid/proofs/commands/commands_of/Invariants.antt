use Rattle.std.proofs.Common.{◌≡◌, ◌++◌, drop}
use Rattle.std.specs.List.{flat_map}
use Rattle.net_grid.specs.Grid.{advertised_at}
use Rattle.net_grid.proofs.commands.commands_of.Given as goal

-- the commands so far, and those that are left
abbrev pub invariant-loop-place : goal.invariant-loop-place
invariant-loop-place l = l.commands.items ++ flat_map advertised_at (drop l.place-index l.places) ≡ flat_map advertised_at l.places
