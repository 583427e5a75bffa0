use Rattle.std.proofs.Common.{◌≡◌, map, not, string_bytes}
use Rattle.std.specs.List.{list_any}
use Rattle.std.specs.Map.{keys_of}
use Rattle.net_fields.specs.Fields.{field_entry}
use Rattle.net_fields.specs.Objects.{is_named}
use Rattle.net_fields.proofs.objects.has_unnamed.Given as goal

abbrev pub invariant-loop-name : goal.invariant-loop-name
invariant-loop-name l =
    list_any (λ key. not (is_named (map field_entry l.fields) (string_bytes key))) l.name-iterator
    ≡ list_any (λ key. not (is_named (map field_entry l.fields) (string_bytes key))) (keys_of l.members.entries)
