use Rattle.decision_core.proofs.Tables.{routes_are_by_prefix}
use Rattle.decision_core.proofs.routes_are_by_prefix.Goals as goal

pub returns : goal.returns
returns c = routes_are_by_prefix
