use Rattle.ls_records.proofs.Taking.{each_entry_is_taken}
use Rattle.ls_records.proofs.each_entry_is_taken.Goals as goal

pub returns : goal.returns
returns c = each_entry_is_taken
