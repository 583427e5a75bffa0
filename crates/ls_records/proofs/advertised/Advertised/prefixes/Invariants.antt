use Rattle.std.proofs.Common.{◌≡◌, ◌++◌}
use Rattle.ls_records.proofs.advertised.Advertised.prefixes.Given as goal

-- the prefixes so far, and those that are left
abbrev pub invariant-loop-prefix : goal.invariant-loop-prefix
invariant-loop-prefix l = l.prefixes.items ++ l.prefix-iterator ≡ l.initial.prefix-iterator
