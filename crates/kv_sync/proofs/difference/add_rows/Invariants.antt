use Rattle.std.proofs.Common.{◌≡◌, ◌++◌, map, drop}
use Rattle.kv_sync.specs.Rows.{row_key}
use Rattle.kv_sync.proofs.difference.add_rows.Given as goal

-- the keys so far, and those of the rows that are left
abbrev pub invariant-loop-row : goal.invariant-loop-row
invariant-loop-row l = l.keys.items ++ map row_key (drop l.row-index l.rows) ≡ l.fn.keys.items ++ map row_key l.rows
