use Rattle.ls_select.proofs.Sound.{selection_is_sound}
use Rattle.ls_select.proofs.selection_is_sound.Goals as goal

pub returns : goal.returns
returns c = selection_is_sound
