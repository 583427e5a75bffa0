use Rattle.std.proofs.Common.{◌≡◌, ◌++◌, length}
use Rattle.serde_json.specs.View.{items_view}
use Rattle.net_fields.specs.Members.{acts_in}
use Rattle.net_fields.proofs.members.acts_in.Given as goal

abbrev pub invariant-loop-value : goal.invariant-loop-value
invariant-loop-value l = l.acts.items ++ acts_in (items_view l.left) ≡ acts_in (items_view l.values)

abbrev pub decreases-loop-value : goal.decreases-loop-value
decreases-loop-value l = length l.left
