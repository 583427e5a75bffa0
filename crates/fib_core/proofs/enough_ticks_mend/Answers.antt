use Rattle.fib_core.proofs.Recovery.{enough_ticks_mend}
use Rattle.fib_core.proofs.enough_ticks_mend.Goals as goal

pub returns : goal.returns
returns c = enough_ticks_mend
