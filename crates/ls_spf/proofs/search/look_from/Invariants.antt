use Rattle.std.proofs.Common.{ℕ, List, drop}
use Rattle.ls_graph.specs.declared.arc.Arc.{Arc}
use Rattle.ls_spf.specs.Search.{cost_in, waits_in, WaitRightly, IsSettling}
use Rattle.ls_spf.specs.Table.{AreArcs}
use Rattle.ls_spf.proofs.search.look_from.Given as goal

abbrev pub invariant-loop-arc : goal.invariant-loop-arc
invariant-loop-arc l = WaitRightly (cost_in l.costs) (waits_in l.waiting)
    × ((arcs : List Arc) (me node : List ℕ) (most : ℕ) → AreArcs arcs
    → IsSettling arcs me (cost_in l.initial.costs) (waits_in l.initial.waiting) l.start node most l.leaving
    → IsSettling arcs me (cost_in l.costs) (waits_in l.waiting) l.start node most (drop l.arc-index l.leaving))
