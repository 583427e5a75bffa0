use Rattle.or_base.proofs.Offers.{holds_greatest}
use Rattle.or_base.proofs.AnyOrder.{leaves_same_in_any_order}
use Rattle.or_base.proofs.offers_hold_greatest.Goals as goal

pub returns-clause-greatest : goal.returns-clause-greatest
returns-clause-greatest c = holds_greatest

pub returns-clause-any_order : goal.returns-clause-any_order
returns-clause-any_order c = leaves_same_in_any_order
