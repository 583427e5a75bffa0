use Rattle.ls_graph.proofs.OnTheWay.{changes_go_on}
use Rattle.ls_graph.proofs.changes_go_on.Goals as goal

pub returns : goal.returns
returns c = changes_go_on
