use Rattle.net_agree.proofs.Counted.{runs_are_counted}
use Rattle.net_agree.proofs.runs_are_counted.Goals as goal

pub returns : goal.returns
returns c = runs_are_counted
