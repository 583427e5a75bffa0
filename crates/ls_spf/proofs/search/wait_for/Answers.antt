use Rattle.std.proofs.Common.{true}
use Rattle.ls_spf.proofs.Steps.{waits_put}
use Rattle.ls_spf.proofs.search.wait_for.Goals as goal

pub returns : goal.returns
returns c = waits_put c.args.waiting.now c.insert.new.self true c.args.cost _ c.args.node.now c.in_ok-copied.ensures c.in_ok-insert.ensures.updates.0
