use Rattle.std.proofs.Common.{◌≡◌, drop}
use Rattle.decision_core.specs.Reach.{with_prefixes}
use Rattle.decision_core.proofs.reach.add_prefixes.Given as goal

-- the places so far, with those that are left
abbrev pub invariant-loop-prefix : goal.invariant-loop-prefix
invariant-loop-prefix l = with_prefixes l.places.keys (drop l.prefix-index l.prefixes) ≡ with_prefixes l.fn.places.keys l.prefixes
