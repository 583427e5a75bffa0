use Rattle.net_agree.proofs.Timed.{runs_are_timed}
use Rattle.net_agree.proofs.runs_are_timed.Goals as goal

pub returns : goal.returns
returns c = runs_are_timed
