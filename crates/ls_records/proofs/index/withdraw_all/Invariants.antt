use Rattle.std.proofs.Common.{length}
use Rattle.ls_records.specs.Index.{withdrawn}
use Rattle.ls_records.proofs.Told.{Leads}
use Rattle.ls_records.proofs.index.withdraw_all.Given as goal

abbrev pub invariant-loop-entry : goal.invariant-loop-entry
invariant-loop-entry l = Leads l.fn.index.entries l.index.entries l.node (withdrawn l.left) (withdrawn l.entries)

abbrev pub decreases-loop-entry : goal.decreases-loop-entry
decreases-loop-entry l = length l.left
