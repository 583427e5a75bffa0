use Rattle.std.proofs.Common.{length}
use Rattle.ls_records.specs.Index.{added}
use Rattle.ls_records.proofs.Told.{Leads}
use Rattle.ls_records.proofs.index.add_all.Given as goal

abbrev pub invariant-loop-entry : goal.invariant-loop-entry
invariant-loop-entry l = Leads l.fn.index.entries l.index.entries l.node (added l.left) (added l.entries)

abbrev pub decreases-loop-entry : goal.decreases-loop-entry
decreases-loop-entry l = length l.left
