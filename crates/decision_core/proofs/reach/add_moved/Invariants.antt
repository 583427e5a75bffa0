use Rattle.std.proofs.Common.{◌≡◌}
use Rattle.decision_core.specs.Reach.{has_moved, with_touched}
use Rattle.decision_core.proofs.reach.add_moved.Given as goal

-- the places so far, with those of the records that are left
abbrev pub invariant-loop-node : goal.invariant-loop-node
invariant-loop-node l = with_touched (has_moved l.before.rows l.after.rows) l.places.keys l.node-iterator ≡ with_touched (has_moved l.before.rows l.after.rows) l.fn.places.keys l.records.entries
