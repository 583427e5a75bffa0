use Rattle.std.proofs.Common.{◌≡◌, ◌++◌, List, map, take, drop}
use Rattle.std.specs.List.{flat_map}
use Rattle.or_actor.specs.declared.output.Output.{Output}
use Rattle.link_monitor.specs.declared.link.MonitoredLink.{MonitoredLink}
use Rattle.link_monitor.specs.LinkMonitor.{link_turn}
use Rattle.link_monitor.proofs.link_monitor.turn_all.Given as goal

-- the links that had their turn and those that are left, and what was sent so far
abbrev pub invariant-loop-link : goal.invariant-loop-link
invariant-loop-link l = record {
  links : take l.link-index l.links ++ map (λ (t : MonitoredLink × List Output). t.0) (map (λ k. link_turn k l.item) (drop l.link-index l.links))
      ≡ map (λ (t : MonitoredLink × List Output). t.0) (map (λ k. link_turn k l.item) l.initial.links);
  sent : l.out ++ flat_map (λ (t : MonitoredLink × List Output). t.1) (map (λ k. link_turn k l.item) (drop l.link-index l.links))
      ≡ l.initial.out ++ flat_map (λ (t : MonitoredLink × List Output). t.1) (map (λ k. link_turn k l.item) l.initial.links);
}
