use Rattle.ls_select.proofs.Sound.{selection_is_within_reach}
use Rattle.ls_select.proofs.selection_is_within_reach.Goals as goal

pub returns : goal.returns
returns c = selection_is_within_reach
