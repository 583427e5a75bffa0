use Rattle.net_record.proofs.Drained.{settled_rounds_end_drained}
use Rattle.net_record.proofs.settled_rounds_end_drained.Goals as goal

pub returns : goal.returns
returns c = settled_rounds_end_drained
