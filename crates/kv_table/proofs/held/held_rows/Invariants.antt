use Rattle.std.proofs.Common.{◌≡◌, ◌++◌, map}
use Rattle.std.specs.Prelude.{All}
use Rattle.std.specs.List.{filter_map}
use Rattle.kv_table.specs.Held.{row_shown}
use Rattle.kv_table.specs.Slots.{row_in}
use Rattle.kv_table.proofs.Rows.{SlotHasItsHash}
use Rattle.kv_table.proofs.held.held_rows.Given as goal

-- the rows so far, and those of the slots that are left, which have their hashes
abbrev pub invariant-loop-key : goal.invariant-loop-key
invariant-loop-key l = record {
  rest : map row_shown l.rows.items ++ filter_map (row_in l.journal) l.key-iterator ≡ filter_map (row_in l.journal) l.slots.entries;
  hashes : All (SlotHasItsHash l.journal) l.key-iterator;
}
