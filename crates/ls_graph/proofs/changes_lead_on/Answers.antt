use Rattle.ls_graph.proofs.Leading.{changes_lead_on}
use Rattle.ls_graph.proofs.changes_lead_on.Goals as goal

pub returns : goal.returns
returns c = changes_lead_on
