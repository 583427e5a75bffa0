use Rattle.std.proofs.Common.{◌≡◌, ◌-◌, length, drop, rules, ◌∙◌, arith}
use Rattle.std.proofs.lemmas.List.{take_all, length-drop}
use Rattle.std.proofs.lemmas.List.Sorted.{IsPartitionPoint-from_clause}
use Rattle.ls_spf.specs.Search.{is_before}
use Rattle.ls_spf.proofs.Leaving.{before_parted, drop_at_point}
use Rattle.ls_spf.proofs.search.arcs_not_before.Goals as goal

pub returns : goal.returns
returns c =
    let point =
    IsPartitionPoint-from_clause (is_before c.args.node.now) _ _ c.partition_point-start.ensures.partitioned (before_parted c.args.node.now c.args.arcs.now c.requires)
    (λ a r q k. search rules) in
    let left : length (drop c.partition_point-start.result c.args.arcs.now) ≡ length c.args.arcs.now - c.partition_point-start.result =
    length-drop c.partition_point-start.result c.args.arcs.now in
    take_all (length c.args.arcs.now - c.partition_point-start.result) (drop c.partition_point-start.result c.args.arcs.now) (omega arith)
    ∙ drop_at_point (is_before c.args.node.now) c.args.arcs.now c.partition_point-start.result c.partition_point-start.ensures.bound point
