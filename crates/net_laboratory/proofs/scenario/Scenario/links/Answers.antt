use Rattle.net_laboratory.proofs.Room.{few_links}
use Rattle.net_laboratory.proofs.scenario.Scenario.links.Goals as goal

pub returns-clause-few : goal.returns-clause-few
returns-clause-few c = rw c.as_slice.ensures (few_links _ c.self.invariant)
