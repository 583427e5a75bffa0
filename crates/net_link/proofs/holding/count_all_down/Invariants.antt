use Rattle.std.proofs.Common.{◌≡◌, ◌++◌, map}
use Rattle.std.specs.Vec.Iter.{into_iter_items}
use Rattle.net_link.specs.Link.{count_down}
use Rattle.net_link.proofs.holding.count_all_down.Given as goal

-- those that are counted down, and those that are left
abbrev pub invariant-loop-message : goal.invariant-loop-message
invariant-loop-message l = l.after.items ++ map count_down (into_iter_items l.message-iterator) ≡ map count_down (into_iter_items l.initial.message-iterator)
