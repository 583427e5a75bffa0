use Rattle.std.proofs.Common.{◌≡◌, drop}
use Rattle.std.specs.List.{fold}
use Rattle.kv_store.specs.Origins.{with_entry, origins_of}
use Rattle.kv_store.proofs.floods.origins_of.Given as goal

abbrev pub invariant-loop-entry : goal.invariant-loop-entry
invariant-loop-entry l = fold with_entry l.origins.entries (drop l.entry-index l.entries) ≡ origins_of l.entries
