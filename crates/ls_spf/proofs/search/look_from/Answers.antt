use Rattle.std.proofs.Common.{arith, subst}
use Rattle.std.proofs.Math.ListN.{drop_of_length-le}
use Rattle.ls_spf.specs.Search.{cost_in, waits_in, IsSettling}
use Rattle.ls_spf.proofs.Seeing.{rightly_now, looked_at}
use Rattle.ls_spf.proofs.search.look_from.Goals as goal

pub loop-arc-preserved : goal.loop-arc-preserved
loop-arc-preserved c = (
  rightly_now (cost_in c.loop-arc.costs) (cost_in c.see.new.costs) (waits_in c.loop-arc.waiting) (waits_in c.see.new.waiting) _ _ c.loop-arc.invariant.0
      c.in_ok-see.ensures.costs c.in_ok-see.ensures.waiting,
  λ arcs me node most are h.
      looked_at (cost_in c.loop-arc.costs) (cost_in c.see.new.costs) (waits_in c.loop-arc.waiting) (waits_in c.see.new.waiting) arcs me c.args.start node most c.args.leaving.now
      c.loop-arc.arc-index c.arc-item.result c.from.result are c.loop-arc-test.true c.arc-item.is c.from.ensures c.in_ok-see.ensures.costs c.in_ok-see.ensures.waiting
      (c.loop-arc.invariant.1 arcs me node most are h),
)

pub returns : goal.returns
returns c = λ arcs me node most are h.
    subst (λ z. IsSettling arcs me (cost_in c.loop-arc.costs) (waits_in c.loop-arc.waiting) c.args.start node most z)
    (drop_of_length-le c.args.leaving.now (omega (arith, c.loop-arc-test.false))) (c.loop-arc.invariant.1 arcs me node most are h)
