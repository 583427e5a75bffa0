use Rattle.kv_agree.proofs.SendsValid.{stores_stay_orderly}
use Rattle.kv_agree.proofs.PairedStays.{stay_paired}
use Rattle.kv_agree.proofs.paired_stores_stay_paired.Goals as goal

pub returns : goal.returns
returns c = stay_paired stores_stay_orderly
