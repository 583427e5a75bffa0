use Rattle.std.proofs.Common.{◌≡◌, ◌++◌}
use Rattle.std.specs.Vec.Iter.{into_iter_items}
use Rattle.net_record.specs.World.{with_fibs}
use Rattle.net_record.proofs.stores.with_fibs.Given as goal

-- the marks so far and those that are left, with the Fibs that are left
abbrev pub invariant-loop-mark : goal.invariant-loop-mark
invariant-loop-mark l = l.told.items ++ with_fibs (into_iter_items l.mark-iterator) (into_iter_items l.fibs) ≡ with_fibs (into_iter_items l.initial.mark-iterator) (into_iter_items l.initial.fibs)
