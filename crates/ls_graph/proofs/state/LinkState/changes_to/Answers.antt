use Rattle.std.proofs.Common.{◌∙◌, ap, subst, option_copied}
use Rattle.ls_graph.specs.Places.{CoverEnds, changes_among}
use Rattle.ls_graph.proofs.Local.{known_changes}
use Rattle.ls_graph.proofs.state.LinkState.changes_to.Goals as goal

pub returns : goal.returns
returns c =
    let i = c.self.inside in
    let db = option_copied c.args.db in
    let places = c.in_ok-places.places.keys in
    known_changes i.me i.databases.entries i.in_force.items c.args.self.now c.self.view_is c.self.invariant.0 c.requires.settled c.args.node.now db c.requires.sound places
    (subst (λ old. CoverEnds c.args.node.now old db places) c.get.ensures.value c.in_ok-places.ensures) c.new-later.result c.new-later.ensures c.in_ok-changes.changes.items
    (c.in_ok-changes.ensures ∙ ap (λ arcs. changes_among arcs i.me c.new-later.result places) c.deref.ensures.value)
