use Rattle.std.proofs.Common.{◌≡◌, ◌++◌, drop}
use Rattle.or_base.specs.declared.kind.Kind.TheVariants.{Full}
use Rattle.kv_store.specs.Store.{entries_told}
use Rattle.kv_store.proofs.store.tell_entries.Given as goal

-- what is sent so far and the entries that are left
abbrev pub invariant-loop-entry : goal.invariant-loop-entry
invariant-loop-entry l = l.out ++ entries_told Full (drop l.entry-index l.entries) ≡ l.fn.out ++ entries_told Full l.entries
