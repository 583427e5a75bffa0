use Rattle.std.proofs.Common.{◌≡◌, length}
use Rattle.or_base.specs.Journal.{holds}
use Rattle.or_base.proofs.journal.holds.Given as goal

-- what is left holds what all of it holds
abbrev pub invariant-loop-entry : goal.invariant-loop-entry
invariant-loop-entry l = holds l.left l.key ≡ holds l.journal l.key

abbrev pub decreases-loop-entry : goal.decreases-loop-entry
decreases-loop-entry l = length l.left
