use Rattle.kv_agree.proofs.SendsValid.{stores_stay_orderly}
use Rattle.kv_agree.proofs.stores_stay_orderly.Goals as goal

pub returns : goal.returns
returns c = stores_stay_orderly
