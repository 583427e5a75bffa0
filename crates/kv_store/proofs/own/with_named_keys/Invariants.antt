use Rattle.std.proofs.Common.{◌≡◌, drop}
use Rattle.kv_store.specs.Own.{with_named_keys}
use Rattle.kv_store.proofs.own.with_named_keys.Given as goal

-- the entries that are left add what all of them add
abbrev pub invariant-loop-entry : goal.invariant-loop-entry
invariant-loop-entry l = with_named_keys l.named.items (drop l.entry-index l.entries) ≡ with_named_keys l.initial.named.items l.entries
