use Rattle.ls_records.proofs.Taking.{records_are_held}
use Rattle.ls_records.proofs.records_are_held.Goals as goal

pub returns : goal.returns
returns c = records_are_held
