use Rattle.kv_store.proofs.Growth.{journals_grow}
use Rattle.kv_store.proofs.journals_grow.Goals as goal

pub returns : goal.returns
returns c = journals_grow
