use Rattle.kv_agree.proofs.Joined.{joined_stores_agree}
use Rattle.kv_agree.proofs.joined_stores_agree.Goals as goal

pub returns : goal.returns
returns c = joined_stores_agree
