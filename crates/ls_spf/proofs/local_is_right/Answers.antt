use Rattle.ls_spf.proofs.Certificate.{local_is_least}
use Rattle.ls_spf.proofs.Back.{least_is_local}
use Rattle.ls_spf.proofs.Hops.{union_is_first}
use Rattle.ls_spf.proofs.local_is_right.Goals as goal

pub returns : goal.returns
returns c = record { costs = local_is_least; back = least_is_local; hops = union_is_first }
