use Rattle.std.proofs.Common.{◌≡◌, ◌++◌}
use Rattle.std.specs.Vec.Iter.{into_iter_items}
use Rattle.net_record.specs.Records.{journals_of}
use Rattle.net_record.proofs.stores.journals_of.Given as goal

-- the journals so far and those of the actors that are left
abbrev pub invariant-loop-actor : goal.invariant-loop-actor
invariant-loop-actor l = l.journals.items ++ journals_of (into_iter_items l.actor-iterator) ≡ journals_of (into_iter_items l.initial.actor-iterator)
