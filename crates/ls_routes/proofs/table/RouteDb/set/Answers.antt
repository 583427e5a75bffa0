use Rattle.std.proofs.Common.{sym, subst}
use Rattle.ls_routes.specs.Routes.{IsTable}
use Rattle.ls_routes.proofs.Tables.{table_with}
use Rattle.ls_routes.proofs.table.RouteDb.set.Goals as goal

pub invariant_of-self-2 : goal.invariant_of-self-2
invariant_of-self-2 c = subst IsTable (sym c.in_ok-insert.ensures.entries) (table_with c.self.inside.routes.entries c.args.route c.self.invariant)
