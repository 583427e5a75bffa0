use Rattle.fib_core.proofs.Programmed.{no_change_is_lost}
use Rattle.fib_core.proofs.no_change_is_lost.Goals as goal

pub returns : goal.returns
returns c = no_change_is_lost
