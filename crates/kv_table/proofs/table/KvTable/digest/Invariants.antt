use Rattle.std.proofs.Common.{◌≡◌, ◌++◌, map}
use Rattle.std.specs.Vec.Iter.{into_iter_items}
use Rattle.kv_table.specs.Held.{row_shown}
use Rattle.kv_table.specs.Digest.{digest_row, digest}
use Rattle.kv_table.proofs.table.KvTable.digest.Given as goal

-- the rows so far, and those of the held keys that are left
abbrev pub invariant-loop-held : goal.invariant-loop-held
invariant-loop-held l = l.rows.items ++ map digest_row (map row_shown (into_iter_items l.held-iterator)) ≡ digest l.self
