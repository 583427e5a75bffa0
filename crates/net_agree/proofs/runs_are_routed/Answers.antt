use Rattle.net_agree.proofs.Routed.{runs_are_routed}
use Rattle.net_agree.proofs.runs_are_routed.Goals as goal

pub returns : goal.returns
returns c = runs_are_routed
