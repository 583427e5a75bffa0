use Rattle.kv_self.proofs.Taken.{own_offers_are_taken}
use Rattle.kv_self.proofs.own_offers_are_taken.Goals as goal

pub returns : goal.returns
returns c = own_offers_are_taken
