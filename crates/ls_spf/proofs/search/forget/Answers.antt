use Rattle.std.proofs.Common.{false}
use Rattle.ls_spf.proofs.Steps.{waits_put}
use Rattle.ls_spf.proofs.search.forget.Goals as goal

pub returns-in_ok-copied : goal.returns-in_ok-copied
returns-in_ok-copied c = λ n q.
    rw c.in-Some.is (waits_put c.args.waiting.now c.remove.new.self false c.in-Some.cost _ c.args.node.now c.in_ok-copied.ensures c.remove.ensures.updates.0 n q)
