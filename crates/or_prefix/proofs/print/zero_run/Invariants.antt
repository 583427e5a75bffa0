use Rattle.std.proofs.Common.{◌≡◌, ◌+◌, drop}
use Rattle.or_prefix.specs.Printing.{zero_run}
use Rattle.or_prefix.proofs.print.zero_run.Given as goal

-- what is left gives what all of it gives
abbrev pub invariant-loop-place : goal.invariant-loop-place
invariant-loop-place l = l.place + zero_run (drop l.place l.groups) ≡ zero_run l.groups
