use Rattle.std.proofs.Common.{◌≡◌, ◌++◌, drop}
use Rattle.net_record.specs.Answers.{desks_asked}
use Rattle.net_record.proofs.answers.desks_asked.Given as goal

-- the desks so far and those of the items that are left
abbrev pub invariant-loop-output : goal.invariant-loop-output
invariant-loop-output l = l.desks.items ++ desks_asked (drop l.output-index l.issues) ≡ desks_asked l.issues
