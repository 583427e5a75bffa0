use Rattle.std.proofs.Common.{◌≡◌, drop, fold}
use Rattle.std.specs.List.{flat_map}
use Rattle.std.specs.BTreeSet.{insert_key}
use Rattle.or_base.specs.Order.{bytes_cmp}
use Rattle.ls_spf.specs.Least.{first_interfaces}
use Rattle.decision_core.proofs.route.add_all_hops.Given as goal

-- the interfaces so far, with those to the nodes that are left
abbrev pub invariant-loop-node : goal.invariant-loop-node
invariant-loop-node l =
    fold (insert_key bytes_cmp) l.all.keys (flat_map (first_interfaces l.records.arcs l.records.me) (drop l.node-index l.nodes))
    ≡ fold (insert_key bytes_cmp) l.fn.all.keys (flat_map (first_interfaces l.records.arcs l.records.me) l.nodes)
