use Rattle.std.proofs.Common.{◌≡◌, Some, sym, ◌∙◌}
use Rattle.ls_spf.specs.Search.{cost_in, waits_in}
use Rattle.ls_spf.specs.Rows.{row_in, arcs_in}
use Rattle.ls_spf.proofs.Making.{tight_are}
use Rattle.ls_spf.proofs.Filling.{row_more, none_below, starts_right, ends_right}
use Rattle.ls_spf.proofs.Tight.{still_tight}
use Rattle.ls_spf.proofs.rows.all_rows.Goals as goal

pub loop-cost-init : goal.loop-cost-init
loop-cost-init c = record {
  rows = starts_right c.args.arcs.now c.args.me.now (cost_in c.args.costs.now) (waits_in c.in_ok-waiting.waiting) c.new-rows.result c.requires.least c.in_ok-waiting.ensures.at_cost
      c.in_ok-waiting.ensures.all c.new-rows.ensures.empty;
  tight = λ n q w.
      c.in_ok-tight.ensures q
      ∙ tight_are c.args.arcs.now c.args.me.now (cost_in c.args.costs.now) q n c.requires.least (sym (c.requires.least q) ∙ c.in_ok-waiting.ensures.at_cost n q w);
}

pub loop-cost-preserved : goal.loop-cost-preserved
loop-cost-preserved c =
    let arcs = c.args.arcs.now in
    let me = c.args.me.now in
    let h = c.loop-cost.invariant.rows in
    let least = h.least c.in-Some.cost c.in-Some.node c.in-Some.ensures.waited in
    let right =
    c.in_ok-row.ensures arcs c.in-Some.node c.requires.arcs
    (none_below arcs me (row_in c.loop-cost.rows) (waits_in c.loop-cost.waiting) c.in-Some.cost h c.in-Some.ensures.least) least
    (c.take_arcs-tight_here.ensures.taken ∙ c.loop-cost.invariant.tight c.in-Some.cost c.in-Some.node c.in-Some.ensures.waited) in
    record {
      rows = row_more arcs me (row_in c.loop-cost.rows) (row_in c.set_row.new.rows) (waits_in c.loop-cost.waiting) (waits_in c.next.new.waiting) c.in-Some.cost c.in-Some.node
          c.in_ok-row.row h c.in-Some.ensures.waited c.in-Some.ensures.gone right c.in_ok-set_row.ensures;
      tight = still_tight arcs me (arcs_in c.loop-cost.tight (λ v. v.items)) (arcs_in c.take_arcs-tight_here.new.all (λ v. v.items)) (waits_in c.loop-cost.waiting)
          (waits_in c.next.new.waiting) c.in-Some.cost c.in-Some.node
          (λ n w. let e : Some c.in-Some.cost ≡ Some n = sym least ∙ h.least n c.in-Some.node w in cc)
          c.in-Some.ensures.gone c.take_arcs-tight_here.ensures.others c.loop-cost.invariant.tight;
    }

pub returns : goal.returns
returns c = record { row = ends_right c.args.arcs.now c.args.me.now (row_in c.loop-cost.rows) (waits_in c.loop-cost.waiting) c.loop-cost.invariant.rows c.in_default.ensures.none }
