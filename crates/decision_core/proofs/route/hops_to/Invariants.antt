use Rattle.std.proofs.Common.{◌≡◌, ◌++◌}
use Rattle.decision_core.proofs.route.hops_to.Given as goal

-- the interfaces so far, and those that are left
abbrev pub invariant-loop-hop : goal.invariant-loop-hop
invariant-loop-hop l = l.hops.items ++ l.hop-iterator ≡ l.initial.hop-iterator
