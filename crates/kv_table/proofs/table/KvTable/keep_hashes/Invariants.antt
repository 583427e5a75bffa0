use Rattle.std.proofs.Common.{◌≡◌}
use Rattle.kv_table.proofs.table.KvTable.keep_hashes.Given as goal

-- the journal stays
abbrev pub invariant-loop-place : goal.invariant-loop-place
invariant-loop-place l = l.self ≡ l.fn.self
