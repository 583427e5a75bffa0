use Rattle.std.proofs.Common.{◌≡◌}
use Rattle.std.specs.Vec.Iter.{into_iter_items}
use Rattle.kv_store.specs.Own.{refresh_each}
use Rattle.kv_store.proofs.own.refresh_each.Given as goal

-- the keys that are left give what all of them give
abbrev pub invariant-loop-key : goal.invariant-loop-key
invariant-loop-key l =
    refresh_each l.owned l.now l.table (into_iter_items l.key-iterator) ≡ refresh_each l.owned l.now l.initial.table (into_iter_items l.initial.key-iterator)
