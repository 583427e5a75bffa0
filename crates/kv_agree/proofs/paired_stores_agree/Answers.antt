use Rattle.kv_agree.proofs.PairedAgree.{paired_agree}
use Rattle.kv_agree.proofs.paired_stores_agree.Goals as goal

pub returns : goal.returns
returns c = paired_agree
