use Rattle.kv_sync.proofs.Law.{numbers_are_new}
use Rattle.kv_sync.proofs.numbers_are_new.Goals as goal

pub returns : goal.returns
returns c = numbers_are_new
