use Rattle.std.proofs.Common.{◌≡◌, take}
use Rattle.std.specs.List.{count_by}
use Rattle.std.specs.Str.{bytes_eq}
use Rattle.net_scenario.proofs.conditions.offers_of.Given as goal

abbrev pub invariant-loop-offered : goal.invariant-loop-offered
invariant-loop-offered l = l.count ≡ count_by (λ o. bytes_eq o.node l.node) (take l.offered-index l.offers)
