use Rattle.std.proofs.Common.{◌≡◌, max, drop}
use Rattle.or_prefix.specs.Printing.{longest_run}
use Rattle.or_prefix.proofs.print.longest_run.Given as goal

-- what is left gives what all of it gives
abbrev pub invariant-loop-start : goal.invariant-loop-start
invariant-loop-start l = max l.longest (longest_run (drop l.start l.groups)) ≡ longest_run l.groups
