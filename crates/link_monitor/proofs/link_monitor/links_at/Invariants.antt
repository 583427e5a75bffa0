use Rattle.std.proofs.Common.{◌≡◌, fold, map}
use Rattle.std.specs.Vec.Iter.{into_iter_items}
use Rattle.link_monitor.specs.LinkMonitor.{monitored, with_monitored, links_at}
use Rattle.link_monitor.proofs.link_monitor.links_at.Given as goal

-- the links so far with those that are left
abbrev pub invariant-loop-end : goal.invariant-loop-end
invariant-loop-end l = fold with_monitored l.links.items (map monitored (into_iter_items l.end-iterator)) ≡ links_at (into_iter_items l.initial.end-iterator)
