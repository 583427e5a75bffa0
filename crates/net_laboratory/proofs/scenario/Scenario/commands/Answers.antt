use Rattle.std.proofs.Common.{rules}
use Rattle.std.proofs.lemmas.List.Elements.{All-same}
use Rattle.net_laboratory.specs.Scenario.{Laboratory}
use Rattle.net_laboratory.specs.Small.{NamesSmallLink}
use Rattle.net_laboratory.proofs.Smallness.{small_commands}
use Rattle.net_laboratory.proofs.scenario.Scenario.commands.Goals as goal

pub returns-clause-small : goal.returns-clause-small
returns-clause-small c =
    let i = c.self.inside in
    let lab : Laboratory = record { kind = i.kind; ttl = i.ttl; nodes = i.nodes; links = i.links; commands = i.commands; turns = i.turns } in
    All-same NamesSmallLink c.as_slice.result.now i.commands (search rules) (small_commands lab c.self.invariant)
