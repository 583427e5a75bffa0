use Rattle.kv_store.proofs.Numbered.{numbers_stay_apart}
use Rattle.kv_store.proofs.numbers_stay_apart.Goals as goal

pub returns : goal.returns
returns c = numbers_stay_apart
