use Rattle.std.proofs.Common.{◌≡◌, take}
use Rattle.net_report.specs.Indexes.{journals_of}
use Rattle.net_report.proofs.stores.indexes_of.Given as goal

-- an index of each journal so far
abbrev pub invariant-loop-journal : goal.invariant-loop-journal
invariant-loop-journal l = journals_of l.indexes.items ≡ take l.journal-index l.journals
