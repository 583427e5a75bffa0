use Rattle.net_record.proofs.GivenEnds.{given_ends_drained}
use Rattle.net_record.proofs.given_ends_drained.Goals as goal

pub returns : goal.returns
returns c = given_ends_drained
