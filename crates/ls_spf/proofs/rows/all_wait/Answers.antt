use Rattle.std.proofs.Common.{◌≡◌, ℕ, List, Some, inr, sym, ◌∙◌, ap, rules}
use Rattle.std.specs.BTreeMap.{is_at}
use Rattle.std.specs.Map.{lookup}
use Rattle.std.specs.Map.Iter.{deref_pair}
use Rattle.std.specs.Ordering.{nat_cmp}
use Rattle.std.specs.Cmp.Lexicographic.{slice_cmp}
use Rattle.std.proofs.lemmas.List.Elements.{All-same, All-rest}
use Rattle.std.proofs.lemmas.Map.Iter.{rest_more}
use Rattle.ls_spf.specs.Search.{cost_in, waits_in}
use Rattle.ls_spf.proofs.Steps.{none_wait}
use Rattle.ls_spf.proofs.Filling.{at_cost_more, each_more}
use Rattle.ls_spf.proofs.rows.all_wait.Goals as goal

pub loop-node-init : goal.loop-node-init
loop-node-init c =
    let entries : c.into_iter-node-iterator.result ≡ c.args.costs.now.entries = search rules in
    record {
      left = All-same (λ (e : List ℕ × ℕ). cost_in c.args.costs.now e.0 ≡ Some e.1) c.into_iter-node-iterator.result c.args.costs.now.entries entries (search rules);
      at_cost = λ n q w. let f = none_wait c.new-waiting.result c.new-waiting.ensures.empty n q in cc;
      each = λ n q e. inr (ap (lookup (is_at (slice_cmp nat_cmp q))) entries ∙ e);
    }

pub loop-node-preserved : goal.loop-node-preserved
loop-node-preserved c =
    let turn = rest_more deref_pair c.loop-node.node-iterator c.next.new.self c.next.result (c.in-Some.node, c.in-Some.cost) c.in-Some.is c.next.ensures.steps in
    let costs = cost_in c.args.costs.now in
    let pair : List ℕ × ℕ = (c.in-Some.node.now, c.in-Some.cost.now) in
    record {
      left = All-rest (λ (e : List ℕ × ℕ). costs e.0 ≡ Some e.1) pair c.next.new.self c.loop-node.node-iterator turn c.loop-node.invariant.left;
      at_cost =
          at_cost_more costs (waits_in c.loop-node.waiting) (waits_in c.wait_for.new.waiting) c.in-Some.node.now c.in-Some.cost.now c.loop-node.node-iterator c.next.new.self (sym turn)
          c.in_ok-wait_for.ensures c.loop-node.invariant.left c.loop-node.invariant.at_cost;
      each = λ n q e.
          each_more costs (waits_in c.loop-node.waiting) (waits_in c.wait_for.new.waiting) c.in-Some.node.now c.in-Some.cost.now c.loop-node.node-iterator c.next.new.self (sym turn)
          c.in_ok-wait_for.ensures n q (c.loop-node.invariant.each n q e);
    }
