use Rattle.fib_core.proofs.Programmed.{clean_is_in_step}
use Rattle.fib_core.proofs.clean_is_in_step.Goals as goal

pub returns : goal.returns
returns c = clean_is_in_step
