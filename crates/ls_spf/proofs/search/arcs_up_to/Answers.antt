use Rattle.std.proofs.Common.{rules}
use Rattle.std.proofs.lemmas.List.Sorted.{IsPartitionPoint-from_clause}
use Rattle.ls_spf.specs.Search.{is_up_to}
use Rattle.ls_spf.proofs.Leaving.{up_to_parted, take_at_point}
use Rattle.ls_spf.proofs.search.arcs_up_to.Goals as goal

pub returns : goal.returns
returns c =
    let point = IsPartitionPoint-from_clause (is_up_to c.args.node.now) _ _ c.partition_point-end.ensures.partitioned (up_to_parted c.args.node.now c.args.arcs.now c.requires)
    (λ a r q k. search rules) in
    take_at_point (is_up_to c.args.node.now) c.args.arcs.now c.partition_point-end.result c.partition_point-end.ensures.bound point
