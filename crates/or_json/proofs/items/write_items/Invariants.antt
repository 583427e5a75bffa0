use Rattle.std.proofs.Common.{◌≡◌, ◌++◌, drop}
use Rattle.json.specs.Tree.{items_tokens}
use Rattle.serde_json.specs.Written.{items_outline}
use Rattle.or_json.specs.Items.{items_data}
use Rattle.or_json.proofs.items.write_items.Given as goal

abbrev pub invariant-loop-item : goal.invariant-loop-item
invariant-loop-item g l = record {
  before : l.out.before ≡ l.fn.out.before;
  tokens : l.out.tokens ++ items_tokens (items_outline (items_data g.T.RecordItem.item_data (drop l.item-index l.items)))
      ≡ l.fn.out.tokens ++ items_tokens (items_outline (items_data g.T.RecordItem.item_data l.items));
}
