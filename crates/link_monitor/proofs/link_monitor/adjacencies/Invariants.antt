use Rattle.std.proofs.Common.{◌≡◌, ◌++◌, drop}
use Rattle.link_monitor.specs.LinkMonitor.{adjacencies}
use Rattle.link_monitor.proofs.link_monitor.adjacencies.Given as goal

-- the adjacencies so far, and those over the links that are left
abbrev pub invariant-loop-link : goal.invariant-loop-link
invariant-loop-link l = l.found.items ++ adjacencies (drop l.link-index l.links) ≡ adjacencies l.links
