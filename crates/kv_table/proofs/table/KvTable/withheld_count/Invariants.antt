use Rattle.std.proofs.Common.{◌≡◌, ◌+◌, ◌≤◌, drop}
use Rattle.kv_table.specs.Sending.{withheld_count}
use Rattle.kv_table.proofs.table.KvTable.withheld_count.Given as goal

-- those counted so far, and those among the keys that are left
abbrev pub invariant-loop-key : goal.invariant-loop-key
invariant-loop-key l = record {
  counted : l.count + withheld_count l.self l.now (drop l.key-index l.keys) ≡ withheld_count l.self l.now l.keys;
  within : l.count ≤ l.key-index;
}
