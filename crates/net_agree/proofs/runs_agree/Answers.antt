use Rattle.net_agree.proofs.Every.{every_settle}
use Rattle.net_agree.proofs.runs_agree.Goals as goal

pub returns : goal.returns
returns c = every_settle
