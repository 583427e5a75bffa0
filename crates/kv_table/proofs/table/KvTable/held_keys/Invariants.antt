use Rattle.std.proofs.Common.{◌≡◌, ◌++◌}
use Rattle.or_base.specs.Journal.{held_keys}
use Rattle.kv_table.proofs.table.KvTable.held_keys.Given as goal

-- the keys so far, and those that are left
abbrev pub invariant-loop-key : goal.invariant-loop-key
invariant-loop-key l = l.keys.items ++ l.key-iterator ≡ held_keys l.self
