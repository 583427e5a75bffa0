use Rattle.std.proofs.Common.{sym, subst}
use Rattle.ls_graph.specs.Changes.{AreByPlace}
use Rattle.ls_graph.proofs.Edits.{ordered_put, ordered_taken}
use Rattle.ls_graph.proofs.state.LinkState.apply.Goals as goal

pub invariant_of-self : goal.invariant_of-self
invariant_of-self c =
    (c.self.invariant.0, subst AreByPlace (sym c.take_arc.ensures) (ordered_taken c.self.inside.in_force.items c.args.change.now.arc c.self.invariant.1))

pub invariant_of-self-in_ok-put_arc-in-Some : goal.invariant_of-self-in_ok-put_arc-in-Some
invariant_of-self-in_ok-put_arc-in-Some c = (
  c.self.invariant.0,
  subst AreByPlace (sym c.in_ok-put_arc-in-Some.ensures.ok) (ordered_put c.self.inside.in_force.items c.in_ok-copied-in-Some.field-0 c.self.invariant.1),
)
