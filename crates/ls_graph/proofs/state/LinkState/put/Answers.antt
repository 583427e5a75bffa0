use Rattle.ls_graph.proofs.Sound.{sound_with}
use Rattle.ls_graph.proofs.state.LinkState.put.Goals as goal

pub invariant_of-self-2 : goal.invariant_of-self-2
invariant_of-self-2 c =
    let e = c.in_ok-_old.ensures in (
      sound_with c.self.inside.databases.entries c.insert.new.self.entries c.in_ok-node.node c.args.db c.self.invariant.0 c.requires.sound e.entries e.ordered,
      c.self.invariant.1,
    )
