use Rattle.std.proofs.Common.{◌≡◌, drop}
use Rattle.or_base.specs.Journal.{merged_keys, with_merged_keys}
use Rattle.or_base.proofs.journal.merged_keys.Given as goal

-- what is left adds what all of it adds
abbrev pub invariant-loop-entry : goal.invariant-loop-entry
invariant-loop-entry l = with_merged_keys l.keys.items (drop l.entry-index l.journal) ≡ merged_keys l.journal
