use Rattle.net_record.proofs.RunsReached.{given_is_reached}
use Rattle.net_record.proofs.given_is_reached.Goals as goal

pub returns : goal.returns
returns c = given_is_reached
