use Rattle.std.proofs.Common.{◌≡◌, ◌++◌, ◌<◌, List, map, take, drop}
use Rattle.std.specs.List.{flat_map, All}
use Rattle.or_actor.specs.declared.output.Output.{Output}
use Rattle.or_actor.specs.Fits.{link_number_end}
use Rattle.spark_node.specs.declared.link.SparkLink.{SparkLink}
use Rattle.spark_node.specs.Spark.{link_turn}
use Rattle.spark_node.proofs.spark.turn_all.Given as goal

-- the links that had their turn and those that are left, and what was sent so far
abbrev pub invariant-loop-link : goal.invariant-loop-link
invariant-loop-link l = record {
  small : All (λ k. k.end.link < link_number_end) l.links;
  links : take l.link-index l.links ++ map (λ (t : SparkLink × List Output). t.0) (map (λ k. link_turn l.me l.now k l.item) (drop l.link-index l.links))
      ≡ map (λ (t : SparkLink × List Output). t.0) (map (λ k. link_turn l.me l.now k l.item) l.initial.links);
  sent : l.out ++ flat_map (λ (t : SparkLink × List Output). t.1) (map (λ k. link_turn l.me l.now k l.item) (drop l.link-index l.links))
      ≡ l.initial.out ++ flat_map (λ (t : SparkLink × List Output). t.1) (map (λ k. link_turn l.me l.now k l.item) l.initial.links);
}
