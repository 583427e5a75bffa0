use Rattle.std.proofs.Common.{◌≡◌, ◌++◌}
use Rattle.kv_sync.specs.Rows.{rows_in_order}
use Rattle.kv_sync.proofs.rows.rows_in_order.Given as goal

-- the rows so far, and those that are left
abbrev pub invariant-loop-row : goal.invariant-loop-row
invariant-loop-row l = l.ordered.items ++ l.row-iterator ≡ rows_in_order l.rows
