use Rattle.net_record.proofs.RunsReached.{rounds_are_reached}
use Rattle.net_record.proofs.rounds_are_reached.Goals as goal

pub returns : goal.returns
returns c = rounds_are_reached
