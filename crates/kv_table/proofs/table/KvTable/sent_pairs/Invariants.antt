use Rattle.std.proofs.Common.{◌≡◌, ◌++◌, drop}
use Rattle.kv_table.specs.Sending.{sent_pairs}
use Rattle.kv_table.proofs.table.KvTable.sent_pairs.Given as goal

-- the pairs so far, and those of the keys that are left
abbrev pub invariant-loop-key : goal.invariant-loop-key
invariant-loop-key l = l.pairs.items ++ sent_pairs l.self l.now (drop l.key-index l.keys) ≡ sent_pairs l.self l.now l.keys
