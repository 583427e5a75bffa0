use Rattle.kv_self.proofs.Taken.{refreshes_are_taken}
use Rattle.kv_self.proofs.refreshes_are_taken.Goals as goal

pub returns : goal.returns
returns c = refreshes_are_taken
