use Rattle.std.proofs.Common.{◌≡◌, map, drop}
use Rattle.fib_core.specs.Fib.{programmed}
use Rattle.fib_core.specs.declared.op.FibOp.TheVariants.{Set}
use Rattle.fib_core.proofs.fib.FibModule.program_set.Given as goal

-- the routes that are left
abbrev pub invariant-loop-route : goal.invariant-loop-route
invariant-loop-route l = programmed l.self (map Set (drop l.route-index l.routes)) ≡ programmed l.fn.self (map Set l.routes)
