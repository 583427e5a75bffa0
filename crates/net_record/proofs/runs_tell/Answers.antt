use Rattle.net_record.proofs.RunsTell.{runs_tell}
use Rattle.net_record.proofs.runs_tell.Goals as goal

pub returns : goal.returns
returns c = runs_tell
