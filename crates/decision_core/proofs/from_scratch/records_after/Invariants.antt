use Rattle.std.proofs.Common.{◌≡◌, take}
use Rattle.ls_records.specs.Change.{known_after}
use Rattle.decision_core.proofs.from_scratch.records_after.Given as goal

-- what is known after the entries so far
abbrev pub invariant-loop-entry : goal.invariant-loop-entry
invariant-loop-entry l = l.records ≡ known_after l.fn.me (take l.entry-index l.entries)
