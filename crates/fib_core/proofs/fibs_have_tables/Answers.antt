use Rattle.fib_core.proofs.Programmed.{fibs_have_tables}
use Rattle.fib_core.proofs.fibs_have_tables.Goals as goal

pub returns : goal.returns
returns c = fibs_have_tables
