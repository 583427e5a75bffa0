use Rattle.std.proofs.Common.{length}
use Rattle.ls_spf.specs.Search.{waits_in}
use Rattle.ls_spf.specs.Rows.{row_in, arcs_in, HaveTight, AreRightBut}
use Rattle.ls_spf.proofs.rows.all_rows.Given as goal

abbrev pub invariant-loop-cost : goal.invariant-loop-cost
invariant-loop-cost l = record {
  rows : AreRightBut l.arcs l.me (row_in l.rows) (waits_in l.waiting);
  tight : HaveTight l.arcs l.me (arcs_in l.tight (λ v. v.items)) (waits_in l.waiting);
}

abbrev pub decreases-loop-cost : goal.decreases-loop-cost
decreases-loop-cost l = length l.waiting.keys
