use Rattle.std.proofs.Common.{◌≡◌, ◌++◌, List, ℕ, drop}
use Rattle.ls_spf.specs.Search.{cost_in}
use Rattle.ls_spf.specs.Rows.{arcs_in, tight_to}
use Rattle.ls_spf.proofs.rows.all_tight.Given as goal

abbrev pub invariant-loop-arc : goal.invariant-loop-arc
invariant-loop-arc l = (q : List ℕ) → arcs_in l.all (λ v. v.items) q ++ tight_to (cost_in l.costs) q (drop l.arc-index l.arcs) ≡ tight_to (cost_in l.costs) q l.arcs
