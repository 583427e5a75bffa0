use Rattle.std.proofs.Common.{◌≡◌, length}
use Rattle.std.specs.List.{list_any}
use Rattle.serde_json.specs.View.{view}
use Rattle.net_fields.specs.Fields.{field_entry}
use Rattle.net_fields.specs.Objects.{meets}
use Rattle.net_scenario.specs.Conditions.{is_undeclared}
use Rattle.net_scenario.specs.Tallied.{seen_in}
use Rattle.net_scenario.proofs.conditions.is_some_undeclared.Given as goal

abbrev pub invariant-loop-field : goal.invariant-loop-field
invariant-loop-field l =
    list_any (λ f. meets (is_undeclared (seen_in l.draft)) (view l.object) (field_entry f)) l.left
    ≡ list_any (λ f. meets (is_undeclared (seen_in l.draft)) (view l.object) (field_entry f)) l.fields

abbrev pub decreases-loop-field : goal.decreases-loop-field
decreases-loop-field l = length l.left
