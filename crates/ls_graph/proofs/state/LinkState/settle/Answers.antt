use Rattle.std.proofs.Common.{◌≡◌, ◌∙◌, ap, refl, sym, subst}
use Rattle.ls_graph.specs.Arcs.{usable_arcs}
use Rattle.ls_graph.specs.Changes.{AreByPlace}
use Rattle.ls_graph.specs.State.{KnownLinks, IsSettled}
use Rattle.ls_graph.proofs.Leading.{changes_lead_on}
use Rattle.ls_graph.proofs.UsableArcs.{usable_by_place}
use Rattle.ls_graph.proofs.state.LinkState.settle.Goals as goal

pub returns-clause-ok : goal.returns-clause-ok
returns-clause-ok c =
    let k = c.args.self.now in
    c.in_ok-apply_each.ensures.ok
    ∙ ap (λ arcs. record k { in_force = arcs })
    (changes_lead_on k.in_force (usable_arcs k.me k.databases) c.args.changes.now
    (subst AreByPlace c.arcs-arcs.ensures.arcs c.arcs-arcs.ensures.by_place) (usable_by_place k.me k.databases c.databases_are_sound.ensures) c.requires)

pub returns-clause-settled : goal.returns-clause-settled
returns-clause-settled c =
    let k = c.args.self.now in
    let there : KnownLinks = record k { in_force = usable_arcs k.me k.databases } in
    let is : c.apply_each.new.self ≡ there = returns-clause-ok c in
    subst IsSettled (sym is) refl
