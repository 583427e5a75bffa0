use Rattle.std.proofs.Common.{◌≡◌, ◌++◌, ◌<◌, ◌^◌}
use Rattle.std.specs.Prelude.{All}
use Rattle.std.specs.List.{flat_map}
use Rattle.std.specs.Map.{keys_of}
use Rattle.kv_store.specs.Floods.{flooded_to}
use Rattle.kv_store.proofs.floods.Floods.send.Given as goal

-- the floods so far and those that are left, whose links have small numbers
abbrev pub invariant-loop-link : goal.invariant-loop-link
invariant-loop-link l = record {
  sent : l.out ++ flat_map (flooded_to l.self) l.link-iterator ≡ l.fn.out ++ flat_map (flooded_to l.self) l.peers.entries;
  small : All (λ link. link < 2 ^ 31) (keys_of l.link-iterator);
}
