use Rattle.std.proofs.Common.{◌≡◌, [], length}
use Rattle.kv_sync.proofs.InOrder.{rows_onto}
use Rattle.kv_sync.proofs.rows.rows_by_key.Given as goal

-- the first rows so far, with those of the rows that are left
abbrev pub invariant-loop-row : goal.invariant-loop-row
invariant-loop-row l = rows_onto l.left l.first.entries ≡ rows_onto l.rows []

abbrev pub decreases-loop-row : goal.decreases-loop-row
decreases-loop-row l = length l.left
