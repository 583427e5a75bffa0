use Rattle.std.proofs.Common.{◌≡◌, ◌+◌, drop}
use Rattle.or_prefix.specs.Printing.{run_start}
use Rattle.or_prefix.proofs.print.run_start.Given as goal

-- what is left gives what all of it gives
abbrev pub invariant-loop-start : goal.invariant-loop-start
invariant-loop-start l = l.start + run_start l.run (drop l.start l.groups) ≡ run_start l.run l.groups
