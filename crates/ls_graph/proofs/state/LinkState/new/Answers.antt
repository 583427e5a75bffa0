use Rattle.ls_graph.proofs.Sound.{nothing_known}
use Rattle.ls_graph.proofs.state.LinkState.new.Goals as goal

pub invariant_of-result : goal.invariant_of-result
invariant_of-result c = nothing_known c.new.result.entries c.new-2.result.items c.new.ensures.empty c.new-2.ensures.items
