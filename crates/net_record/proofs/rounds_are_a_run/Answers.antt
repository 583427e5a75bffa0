use Rattle.net_record.proofs.RoundRuns.{rounds_are_a_run}
use Rattle.net_record.proofs.rounds_are_a_run.Goals as goal

pub returns : goal.returns
returns c = rounds_are_a_run
