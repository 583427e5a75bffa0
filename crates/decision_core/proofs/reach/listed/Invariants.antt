use Rattle.std.proofs.Common.{◌≡◌, ◌++◌}
use Rattle.decision_core.proofs.reach.listed.Given as goal

-- the prefixes so far, and those that are left
abbrev pub invariant-loop-prefix : goal.invariant-loop-prefix
invariant-loop-prefix l = l.list.items ++ l.prefix-iterator ≡ l.places.keys
