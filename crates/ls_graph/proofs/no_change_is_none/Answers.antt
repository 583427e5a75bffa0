use Rattle.ls_graph.proofs.Leading.{no_change_is_none}
use Rattle.ls_graph.proofs.no_change_is_none.Goals as goal

pub returns : goal.returns
returns c = no_change_is_none
