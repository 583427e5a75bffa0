use Rattle.std.proofs.Common.{◌≡◌, ◌++◌, ◌+◌, ◌≤◌, length}
use Rattle.std.specs.Prelude.{map}
use Rattle.std.specs.Vec.{vec_capacity}
use Rattle.std.specs.Vec.Iter.{into_iter_items}
use Rattle.or_base.specs.declared.entry.JournalEntry.TheVariants.{Expired}
use Rattle.kv_table.specs.Expiry.{expire}
use Rattle.kv_table.specs.Slots.{AreSlotsOf, AreDeadlinesOf}
use Rattle.kv_table.proofs.table.KvTable.expire.Given as goal

-- the journal so far, with an entry for each key that is left, is all of it, and has room for them; the slots are those of the
-- journal so far, and the deadlines those of all of it
abbrev pub invariant-loop-key : goal.invariant-loop-key
invariant-loop-key l = record {
  rest : l.self-inside.entries.items ++ map (λ key. Expired key l.now) (into_iter_items l.key-iterator) ≡ expire l.fn.self l.now;
  room : length l.self-inside.entries.items + length (into_iter_items l.key-iterator) ≤ vec_capacity l.self-inside.entries;
  slots : AreSlotsOf l.self-inside.entries.items l.self-inside.slots.entries;
  deadlines : AreDeadlinesOf (expire l.fn.self l.now) l.self-inside.wheel;
}
