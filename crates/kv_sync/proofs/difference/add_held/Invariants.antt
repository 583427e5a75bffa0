use Rattle.std.proofs.Common.{◌≡◌, ◌++◌, map, drop}
use Rattle.kv_sync.specs.Walk.{held_key}
use Rattle.kv_sync.proofs.difference.add_held.Given as goal

-- the keys so far, and those of the rows that are left
abbrev pub invariant-loop-row : goal.invariant-loop-row
invariant-loop-row l = l.keys.items ++ map held_key (drop l.row-index l.held) ≡ l.fn.keys.items ++ map held_key l.held
