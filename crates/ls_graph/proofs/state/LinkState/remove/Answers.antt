use Rattle.ls_graph.proofs.Sound.{sound_without}
use Rattle.ls_graph.proofs.state.LinkState.remove.Goals as goal

pub invariant_of-self : goal.invariant_of-self
invariant_of-self c =
    let e = c.remove-old.ensures in
    (sound_without c.self.inside.databases.entries c.remove-old.new.self.entries c.args.node.now c.self.invariant.0 e.entries e.ordered, c.self.invariant.1)
