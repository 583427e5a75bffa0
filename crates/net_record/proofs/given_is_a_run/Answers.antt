use Rattle.net_record.proofs.GivenRuns.{given_is_a_run}
use Rattle.net_record.proofs.given_is_a_run.Goals as goal

pub returns : goal.returns
returns c = given_is_a_run
