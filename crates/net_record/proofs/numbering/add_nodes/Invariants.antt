use Rattle.std.proofs.Common.{◌≡◌, ◌+◌, ◌*◌, ◌++◌, drop, length, vec_len}
use Rattle.std.specs.Prelude.{All}
use Rattle.std.specs.List.{flat_map, enumerate_from}
use Rattle.net_record.specs.Roles.{node_roles}
use Rattle.net_record.specs.Small.{HasSmallNumber}
use Rattle.net_record.proofs.numbering.add_nodes.Given as goal

-- the modules so far and those of the nodes that are left
abbrev pub invariant-loop-place : goal.invariant-loop-place
invariant-loop-place l = record {
  added : l.all.items ++ flat_map (node_roles l.modules l.links l.ttl) (enumerate_from l.place (drop l.place l.nodes)) ≡ l.fn.all.items ++ flat_map (node_roles l.modules l.links l.ttl) (enumerate_from 0 l.nodes);
  len : vec_len l.all ≡ vec_len l.fn.all + l.place * length l.modules;
  small : All HasSmallNumber l.fn.all.items → All HasSmallNumber l.all.items;
}
