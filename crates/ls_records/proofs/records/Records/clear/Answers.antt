use Rattle.std.proofs.Common.{ap}
use Rattle.ls_records.proofs.Holding.{nothing_left}
use Rattle.ls_records.proofs.records.Records.clear.Goals as goal

pub returns-clause-now : goal.returns-clause-now
returns-clause-now c =
    nothing_left c.args.self.now.me c.self.inside.links.me c.clear-2.new.self c.clear.new.self c.clear-2.ensures (ap (λ k. k.me) c.self.view_is) c.clear.ensures
