use Rattle.net_record.proofs.GivenRounds.{rounds_are_given}
use Rattle.net_record.proofs.rounds_are_given.Goals as goal

pub returns : goal.returns
returns c = rounds_are_given
