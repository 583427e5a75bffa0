use Rattle.std.proofs.Common.{◌≡◌, Some}
use Rattle.ls_records.specs.Change.{is_that}
use Rattle.decision_core.specs.Reach.{with_touched}
use Rattle.decision_core.proofs.reach.add_named.Given as goal

-- the places so far, with those of the records that are left
abbrev pub invariant-loop-node : goal.invariant-loop-node
invariant-loop-node l = with_touched (is_that (Some l.name)) l.places.keys l.node-iterator ≡ with_touched (is_that (Some l.name)) l.fn.places.keys l.records.entries
