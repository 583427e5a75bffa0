use Rattle.std.proofs.Common.{◌≡◌, ℕ, List, Some, true, ◌⊎◌}
use Rattle.std.specs.Prelude.{All}
use Rattle.std.specs.BTreeMap.{is_at}
use Rattle.std.specs.Map.{lookup}
use Rattle.std.specs.Ordering.{nat_cmp}
use Rattle.std.specs.Cmp.Lexicographic.{slice_cmp}
use Rattle.ls_spf.specs.Search.{cost_in, waits_in, WaitRightly}
use Rattle.ls_spf.proofs.rows.all_wait.Given as goal

-- what is left has its cost, what waits does so at its cost, and a node with a cost waits or is left
abbrev pub invariant-loop-node : goal.invariant-loop-node
invariant-loop-node l = record {
  left : All (λ (e : List ℕ × ℕ). cost_in l.costs e.0 ≡ Some e.1) l.node-iterator;
  at_cost : WaitRightly (cost_in l.costs) (waits_in l.waiting);
  each : (n : ℕ) (q : List ℕ) → cost_in l.costs q ≡ Some n → (waits_in l.waiting n q ≡ true) ⊎ (lookup (is_at (slice_cmp nat_cmp q)) l.node-iterator ≡ Some n);
}
