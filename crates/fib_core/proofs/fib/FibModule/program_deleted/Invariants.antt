use Rattle.std.proofs.Common.{◌≡◌, map, drop}
use Rattle.fib_core.specs.Fib.{programmed}
use Rattle.fib_core.specs.declared.op.FibOp.TheVariants.{Del}
use Rattle.fib_core.proofs.fib.FibModule.program_deleted.Given as goal

-- the prefixes that are left
abbrev pub invariant-loop-prefix : goal.invariant-loop-prefix
invariant-loop-prefix l = programmed l.self (map Del (drop l.prefix-index l.prefixes)) ≡ programmed l.fn.self (map Del l.prefixes)
