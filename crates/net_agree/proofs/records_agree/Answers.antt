use Rattle.net_agree.proofs.Every.{every_record}
use Rattle.net_agree.proofs.records_agree.Goals as goal

pub returns : goal.returns
returns c = every_record
