use Rattle.std.proofs.Common.{◌≡◌, ◌++◌, drop}
use Rattle.decision_core.specs.History.{replaced_at}
use Rattle.decision_core.proofs.history.add_gone.Given as goal

-- the routes so far, and those that are left
abbrev pub invariant-loop-prefix : goal.invariant-loop-prefix
invariant-loop-prefix l = l.replaced.items ++ replaced_at l.entries l.routes (drop l.prefix-index l.prefixes) ≡ l.fn.replaced.items ++ replaced_at l.entries l.routes l.prefixes
