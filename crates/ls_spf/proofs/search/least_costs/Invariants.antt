use Rattle.std.proofs.Common.{ℕ, []}
use Rattle.ls_spf.specs.Search.{cost_in, waits_in, ahead, IsSearch}
use Rattle.ls_spf.proofs.search.least_costs.Given as goal

abbrev pub invariant-loop-start : goal.invariant-loop-start
invariant-loop-start l = (last : ℕ) × IsSearch l.arcs l.me (cost_in l.costs) (waits_in l.waiting) last []

abbrev pub decreases-loop-start : goal.decreases-loop-start
decreases-loop-start l = ahead l.arcs l.me (cost_in l.costs) (waits_in l.waiting)
