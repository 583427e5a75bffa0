use Rattle.std.proofs.Common.{◌≡◌, drop, map}
use Rattle.or_base.specs.declared.database.PrefixEntry.{PrefixEntry}
use Rattle.decision_core.specs.Reach.{with_prefixes}
use Rattle.decision_core.proofs.reach.add_entries.Given as goal

-- the places so far, with those of the entries that are left
abbrev pub invariant-loop-entry : goal.invariant-loop-entry
invariant-loop-entry l = with_prefixes l.places.keys (map (λ (e : PrefixEntry). e.prefix) (drop l.entry-index l.entries)) ≡ with_prefixes l.fn.places.keys (map (λ (e : PrefixEntry). e.prefix) l.entries)
