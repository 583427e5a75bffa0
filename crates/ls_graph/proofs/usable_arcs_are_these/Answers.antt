use Rattle.ls_graph.proofs.UsableArcs.{usable_arcs_are_these}
use Rattle.ls_graph.proofs.usable_arcs_are_these.Goals as goal

pub returns : goal.returns
returns c = usable_arcs_are_these
