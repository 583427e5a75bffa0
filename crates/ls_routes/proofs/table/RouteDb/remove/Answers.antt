use Rattle.std.proofs.Common.{sym, subst}
use Rattle.ls_routes.specs.Routes.{IsTable}
use Rattle.ls_routes.proofs.Tables.{table_without}
use Rattle.ls_routes.proofs.table.RouteDb.remove.Goals as goal

pub invariant_of-self : goal.invariant_of-self
invariant_of-self c = subst IsTable (sym c.remove.ensures.entries) (table_without c.self.inside.routes.entries c.args.prefix.now c.self.invariant)
