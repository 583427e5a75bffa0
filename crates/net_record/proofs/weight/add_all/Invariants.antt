use Rattle.std.proofs.Common.{◌≡◌, ◌+◌, take}
use Rattle.std.specs.Prelude.{sum_by}
use Rattle.or_base.specs.Counting.{saturate}
use Rattle.net_record.proofs.weight.add_all.Given as goal

-- those so far are weighed
abbrev pub invariant-loop-item : goal.invariant-loop-item
invariant-loop-item g l = l.sum ≡ saturate (l.total + sum_by g.T.Weighed.weight (take l.item-index l.items))
