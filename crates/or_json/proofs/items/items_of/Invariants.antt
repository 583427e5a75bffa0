use Rattle.std.proofs.Common.{◌≡◌, ◌++◌, drop, option_map}
use Rattle.serde_json.specs.View.{items_view}
use Rattle.or_json.specs.Items.{items_of}
use Rattle.or_json.proofs.items.items_of.Given as goal

abbrev pub invariant-loop-value : goal.invariant-loop-value
invariant-loop-value g l =
    option_map (λ more. l.read.items ++ more) (items_of g.T.RecordItem.item_of (items_view (drop l.value-index l.values)))
    ≡ items_of g.T.RecordItem.item_of (items_view l.values)
