use Rattle.ls_select.proofs.Sound.{nothing_selected}
use Rattle.ls_select.proofs.nothing_selected.Goals as goal

pub returns : goal.returns
returns c = nothing_selected
