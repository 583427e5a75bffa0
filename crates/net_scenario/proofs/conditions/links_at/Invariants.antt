use Rattle.std.proofs.Common.{◌≡◌, take}
use Rattle.std.specs.List.{count_by}
use Rattle.net_laboratory.specs.Scenario.{is_end}
use Rattle.net_scenario.proofs.conditions.links_at.Given as goal

abbrev pub invariant-loop-link : goal.invariant-loop-link
invariant-loop-link l = l.count ≡ count_by (is_end l.name) (take l.link-index l.links)
