use Rattle.kv_value.proofs.Joins.{join_laws}
use Rattle.kv_value.proofs.joining_has_laws.Goals as goal

pub returns : goal.returns
returns c = join_laws
