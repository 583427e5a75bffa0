use Rattle.std.proofs.Common.{◌≡◌, ◌+◌, ◌++◌, drop, map, vec_len}
use Rattle.std.specs.Prelude.{All}
use Rattle.net_record.specs.declared.role.Role.TheVariants.{Node}
use Rattle.net_record.specs.Roles.{store_number, decision_number, ends_at, node_roles}
use Rattle.net_record.specs.Small.{HasSmallNumber}
use Rattle.net_record.proofs.numbering.add_node.Given as goal

-- the modules so far and those that are left
abbrev pub invariant-loop-module_ : goal.invariant-loop-module_
invariant-loop-module_ l = record {
  added : l.all.items ++ map (λ m. Node m l.node.name (record { store = store_number l.modules l.place; decision = decision_number l.modules l.place; ends = ends_at l.links l.node.name; ttl = l.ttl; faults = l.node.faults })) (drop l.module_-index l.modules) ≡ l.fn.all.items ++ node_roles l.modules l.links l.ttl (l.place, l.node);
  len : vec_len l.all ≡ vec_len l.fn.all + l.module_-index;
  small : All HasSmallNumber l.fn.all.items → All HasSmallNumber l.all.items;
}
