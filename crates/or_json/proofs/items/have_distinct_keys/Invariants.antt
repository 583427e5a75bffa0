use Rattle.std.proofs.Common.{◌≡◌, length}
use Rattle.or_json.specs.Items.{have_distinct_keys}
use Rattle.or_json.proofs.items.have_distinct_keys.Given as goal

abbrev pub invariant-loop-first : goal.invariant-loop-first
invariant-loop-first g l = have_distinct_keys g.T.RecordItem.has_same_key l.left ≡ have_distinct_keys g.T.RecordItem.has_same_key l.items

abbrev pub decreases-loop-first : goal.decreases-loop-first
decreases-loop-first g l = length l.left
