use Rattle.std.proofs.Common.{◌+◌, ◌*◌, ◌^◌, ◌≤◌, ◌<◌, length, true, cond, Some, ◌&&◌, ◌==◌, ◌∙◌, ap, arith}
use Rattle.std.specs.Str.{bytes_eq}
use Rattle.ls_graph.specs.declared.arc.Arc.{Arc}
use Rattle.ls_spf.specs.Search.{cost_in, waits_in, ahead}
use Rattle.ls_spf.proofs.Steps.{no_costs, none_wait}
use Rattle.ls_spf.proofs.Certificate.{local_is_least}
use Rattle.ls_spf.proofs.Settling.{search_starts, next_settled, less_ahead, search_ends}
use Rattle.ls_spf.proofs.search.least_costs.Goals as goal

pub loop-start-init : goal.loop-start-init
loop-start-init c = (
  0,
  search_starts c.args.arcs.now c.args.me.now (cost_in c.set_cost.new.costs) (waits_in c.wait_for.new.waiting)
      (λ q. c.in_ok-set_cost.ensures q ∙ ap (λ o. cond (bytes_eq c.args.me.now q) (Some 0) o) (no_costs c.new-costs.result c.new-costs.ensures.empty q))
      (λ n q. c.in_ok-wait_for.ensures n q ∙ ap (λ b. cond ((0 == n) && bytes_eq c.args.me.now q) true b) (none_wait c.new-waiting.result c.new-waiting.ensures.empty n q)),
)

pub look_from-requires-clause-rightly : goal.look_from-requires-clause-rightly
look_from-requires-clause-rightly c =
    (next_settled c.args.arcs.now c.args.me.now (cost_in c.loop-start.costs) (waits_in c.loop-start.waiting) (waits_in c.next.new.waiting) c.loop-start.invariant.0 c.in-Some.start
    c.in-Some.node c.loop-start.invariant.1 c.in-Some.ensures.waited c.in-Some.ensures.least c.in-Some.ensures.gone).search.rightly

pub look_from-requires-clause-small : goal.look_from-requires-clause-small
look_from-requires-clause-small c =
    let s = next_settled c.args.arcs.now c.args.me.now (cost_in c.loop-start.costs) (waits_in c.loop-start.waiting) (waits_in c.next.new.waiting) c.loop-start.invariant.0 c.in-Some.start
    c.in-Some.node c.loop-start.invariant.1 c.in-Some.ensures.waited c.in-Some.ensures.least c.in-Some.ensures.gone in
    let r : c.in-Some.start + 2 ^ 31 + 2 ^ 31 * ahead c.args.arcs.now c.args.me.now (cost_in c.loop-start.costs) (waits_in c.next.new.waiting) ≤ 2 ^ 31 * (length c.args.arcs.now + 1) = s.room in
    let f : length c.args.arcs.now < 2 ^ 31 = c.requires.few in omega arith

pub loop-start-preserved : goal.loop-start-preserved
loop-start-preserved c =
    let s = next_settled c.args.arcs.now c.args.me.now (cost_in c.loop-start.costs) (waits_in c.loop-start.waiting) (waits_in c.next.new.waiting) c.loop-start.invariant.0 c.in-Some.start
    c.in-Some.node c.loop-start.invariant.1 c.in-Some.ensures.waited c.in-Some.ensures.least c.in-Some.ensures.gone in
    let leaving = c.arcs_from.ensures in
    let after = c.in_ok-look_from.ensures c.args.arcs.now c.args.me.now c.in-Some.node (ahead c.args.arcs.now c.args.me.now (cost_in c.loop-start.costs) (waits_in c.next.new.waiting)) c.requires
    (rw leaving s) in
    (c.in-Some.start, after.search)

pub loop-start-smaller : goal.loop-start-smaller
loop-start-smaller c =
    let s = next_settled c.args.arcs.now c.args.me.now (cost_in c.loop-start.costs) (waits_in c.loop-start.waiting) (waits_in c.next.new.waiting) c.loop-start.invariant.0 c.in-Some.start
    c.in-Some.node c.loop-start.invariant.1 c.in-Some.ensures.waited c.in-Some.ensures.least c.in-Some.ensures.gone in
    let f : ahead c.args.arcs.now c.args.me.now (cost_in c.loop-start.costs) (waits_in c.next.new.waiting) + 1 ≤ ahead c.args.arcs.now c.args.me.now (cost_in c.loop-start.costs) (waits_in c.loop-start.waiting) =
    less_ahead c.args.arcs.now c.args.me.now (cost_in c.loop-start.costs) (waits_in c.loop-start.waiting) (waits_in c.next.new.waiting) c.loop-start.invariant.0 c.in-Some.start
    c.in-Some.node c.loop-start.invariant.1 c.in-Some.ensures.waited c.in-Some.ensures.least c.in-Some.ensures.gone in
    let after = c.in_ok-look_from.ensures c.args.arcs.now c.args.me.now c.in-Some.node (ahead c.args.arcs.now c.args.me.now (cost_in c.loop-start.costs) (waits_in c.next.new.waiting)) c.requires
    (rw c.arcs_from.ensures s) in
    let l : ahead c.args.arcs.now c.args.me.now (cost_in c.look_from.new.costs) (waits_in c.look_from.new.waiting) ≤ ahead c.args.arcs.now c.args.me.now (cost_in c.loop-start.costs) (waits_in c.next.new.waiting) = after.left in
    omega arith

pub returns : goal.returns
returns c = λ q.
    local_is_least c.args.arcs.now c.args.me.now (cost_in c.loop-start.costs) (λ (a : Arc) i. (c.requires.metrics a i).0)
    (search_ends c.args.arcs.now c.args.me.now (cost_in c.loop-start.costs) (waits_in c.loop-start.waiting) c.loop-start.invariant.0 c.loop-start.invariant.1 c.in_default.ensures.none) q
