use Rattle.std.proofs.Common.{rules}
use Rattle.std.specs.Map.Iter.{deref}
use Rattle.std.proofs.lemmas.Map.Iter.{rest_more}
use Rattle.prefix_manager.proofs.Counts.{over_more, told_all}
use Rattle.prefix_manager.proofs.aggregate.counted.Goals as goal

pub loop-route-preserved : goal.loop-route-preserved
loop-route-preserved c =
    let turn = rest_more deref c.loop-route.route-iterator c.next.new.self c.next.result c.in-Some.route c.in-Some.is c.next.ensures.steps in
    over_more c.loop-route.counted _ _ c.in-Some.route.now c.loop-route.route-iterator c.next.new.self turn c.count_in.ensures c.loop-route.invariant

pub returns-clause-told : goal.returns-clause-told
returns-clause-told c = told_all c.args.prefix c.args.least c.args.routed.now.keys c.loop-route.counted (search rules)
