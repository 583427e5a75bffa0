use Rattle.std.proofs.Common.{◌∙◌}
use Rattle.ls_routes.proofs.Leading.{given_leads_on}
use Rattle.ls_routes.proofs.table.RouteDb.delta_from.Goals as goal

pub returns-clause-leads : goal.returns-clause-leads
returns-clause-leads c =
    given_leads_on c.args.old.now c.args.self.now c.old.inside.routes.entries c.self.inside.routes.entries c.from_vec.result c.from_vec-2.result
    c.routes_are_a_table-2.ensures c.routes_are_a_table.ensures c.old.view_is c.self.view_is
    (c.from_vec.ensures ∙ c.in_ok-del.ensures) (c.from_vec-2.ensures ∙ c.in_ok-set.ensures)
