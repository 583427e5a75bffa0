use Rattle.kv_sync.proofs.Onward.{sessions_go_on}
use Rattle.kv_sync.proofs.sessions_go_on.Goals as goal

pub returns : goal.returns
returns c = sessions_go_on
