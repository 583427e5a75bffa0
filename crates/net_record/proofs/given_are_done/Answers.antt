use Rattle.net_record.proofs.GivenEnds.{given_are_done}
use Rattle.net_record.proofs.given_are_done.Goals as goal

pub returns : goal.returns
returns c = given_are_done
