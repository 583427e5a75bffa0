use Rattle.net_laboratory.proofs.Room.{few_nodes}
use Rattle.net_laboratory.proofs.scenario.Scenario.nodes.Goals as goal

pub returns-clause-few : goal.returns-clause-few
returns-clause-few c = rw c.as_slice.ensures (few_nodes _ c.self.invariant)
