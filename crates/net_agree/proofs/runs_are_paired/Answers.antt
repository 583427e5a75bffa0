use Rattle.net_agree.proofs.Every.{every_pair}
use Rattle.net_agree.proofs.runs_are_paired.Goals as goal

pub returns : goal.returns
returns c = every_pair
