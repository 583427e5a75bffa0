use Rattle.std.proofs.Common.{◌≡◌, ◌-◌, drop, length}
use Rattle.std.specs.List.{filter}
use Rattle.ls_select.specs.Selection.{takes_transit, has_none}
use Rattle.ls_select.proofs.choice.some_takes_transit.Given as goal

-- none so far does
abbrev pub invariant-loop-place : goal.invariant-loop-place
invariant-loop-place l = has_none (filter takes_transit (drop l.place l.offers)) ≡ has_none (filter takes_transit l.offers)

abbrev pub decreases-loop-place : goal.decreases-loop-place
decreases-loop-place l = length l.offers - l.place
