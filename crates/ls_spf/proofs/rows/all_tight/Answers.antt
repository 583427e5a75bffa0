use Rattle.std.proofs.Common.{◌++◌, sym, ◌∙◌, ap, arith}
use Rattle.std.proofs.Math.ListN.{drop_of_length-le}
use Rattle.std.proofs.lemmas.List.{append-nil}
use Rattle.ls_spf.specs.Search.{cost_in}
use Rattle.ls_spf.specs.Rows.{arcs_in, tight_to}
use Rattle.ls_spf.proofs.Tight.{tight_put, tight_passed}
use Rattle.ls_spf.proofs.rows.all_tight.Goals as goal
use Rattle.ls_spf.proofs.rows.all_tight.Goals.{then-is_tight+in_ok-put_arc, else-is_tight}

pub loop-arc-preserved : goal.loop-arc-preserved
loop-arc-preserved c = λ q.
    let costs = cost_in c.args.costs.now in
    let arcs = c.args.arcs.now in
    let before = c.loop-arc.invariant q in
    elim c.if-is_tight.branch [
      | then-is_tight+in_ok-put_arc w ↦
          tight_put costs arcs c.loop-arc.arc-index c.arc-item.result c.loop-arc-test.true c.arc-item.is q (arcs_in c.loop-arc.all (λ v. v.items) q) (tight_to costs q arcs) before
          (arcs_in c.if-is_tight.all (λ v. v.items) q) (ap (λ m. arcs_in m (λ v. v.items) q) w.all-is ∙ w.in_ok-put_arc.ensures q) (sym c.is_tight.ensures ∙ w.if-is_tight.true)
      | else-is_tight w ↦
          tight_passed costs arcs c.loop-arc.arc-index c.arc-item.result c.loop-arc-test.true c.arc-item.is q (arcs_in c.loop-arc.all (λ v. v.items) q) (tight_to costs q arcs) before
          (arcs_in c.if-is_tight.all (λ v. v.items) q) (ap (λ m. arcs_in m (λ v. v.items) q) w.all-is) (sym c.is_tight.ensures ∙ w.if-is_tight.false)
    ]

pub returns : goal.returns
returns c = λ q.
    let costs = cost_in c.args.costs.now in
    let found = arcs_in c.loop-arc.all (λ v. v.items) q in
    sym (append-nil found)
    ∙ (ap (λ z. found ++ tight_to costs q z) (sym (drop_of_length-le c.args.arcs.now (omega (arith, c.loop-arc-test.false)))) ∙ c.loop-arc.invariant q)
