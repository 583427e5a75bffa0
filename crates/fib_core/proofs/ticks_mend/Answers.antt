use Rattle.fib_core.proofs.Recovery.{ticks_mend}
use Rattle.fib_core.proofs.ticks_mend.Goals as goal

pub returns : goal.returns
returns c = ticks_mend
