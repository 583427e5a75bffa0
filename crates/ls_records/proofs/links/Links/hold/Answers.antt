use Rattle.std.proofs.Common.{◌≡◌, rules, ◌∙◌, ap}
use Rattle.ls_graph.specs.State.{KnownLinks}
use Rattle.ls_records.specs.Links.{known_links}
use Rattle.ls_records.proofs.Holding.{covers_links}
use Rattle.ls_records.proofs.links.Links.hold.Goals as goal

pub returns-clause-covers : goal.returns-clause-covers
returns-clause-covers c =
    let shown : c.in_ok-state.state ≡ c.args.self.now = c.in_ok-state.ensures.state ∙ ap (known_links c.self.inside.me) c.take.ensures.value ∙ c.self.view_is in
    let after : KnownLinks = record { me = c.self.inside.me; databases = c.in_ok-state-2.state.databases; in_force = c.in_ok-state-2.state.in_force } in
    let put : after ≡ c.in_ok-state-2.state = search rules in
    covers_links c.args.self.now c.in_ok-state.state after c.args.node.now c.args.db c.in_ok-state-2.changes.items c.is_overloaded-was.result c.is_overloaded-is.result
    shown c.replaced.ensures.by_name (put ∙ c.in_ok-state-2.ensures.after) c.in_ok-state-2.ensures.changes c.is_overloaded-was.ensures c.is_overloaded-is.ensures
