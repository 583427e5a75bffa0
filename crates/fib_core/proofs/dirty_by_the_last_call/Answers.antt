use Rattle.fib_core.proofs.Calls.{dirty_by_the_last_call}
use Rattle.fib_core.proofs.dirty_by_the_last_call.Goals as goal

pub returns : goal.returns
returns c = dirty_by_the_last_call
