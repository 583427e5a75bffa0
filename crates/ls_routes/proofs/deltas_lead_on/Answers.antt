use Rattle.ls_routes.proofs.Leading.{deltas_lead_on}
use Rattle.ls_routes.proofs.deltas_lead_on.Goals as goal

pub returns : goal.returns
returns c = deltas_lead_on
