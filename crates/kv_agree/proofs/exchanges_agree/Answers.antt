use Rattle.kv_agree.proofs.Agreeing.{exchanges_agree}
use Rattle.kv_agree.proofs.exchanges_agree.Goals as goal

pub returns : goal.returns
returns c = exchanges_agree
