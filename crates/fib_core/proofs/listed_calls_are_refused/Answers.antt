use Rattle.fib_core.proofs.Calls.{listed_calls_are_refused}
use Rattle.fib_core.proofs.listed_calls_are_refused.Goals as goal

pub returns : goal.returns
returns c = listed_calls_are_refused
