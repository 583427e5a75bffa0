use Rattle.std.proofs.Common.{◌≡◌, ◌++◌, map}
use Rattle.std.specs.Vec.Iter.{into_iter_items}
use Rattle.spark_node.specs.Spark.{down_link}
use Rattle.spark_node.proofs.spark.down_links.Given as goal

-- the links so far, and those that are left
abbrev pub invariant-loop-end : goal.invariant-loop-end
invariant-loop-end l = l.links.items ++ map down_link (into_iter_items l.end-iterator) ≡ map down_link (into_iter_items l.initial.end-iterator)
