use Rattle.std.proofs.Common.{◌≡◌, drop}
use Rattle.ls_graph.specs.Changes.{with_changes}
use Rattle.ls_graph.proofs.state.LinkState.apply_each.Given as goal

-- the changes that are left lead where all of them do
abbrev pub invariant-loop-change : goal.invariant-loop-change
invariant-loop-change l = record {
  me : l.self.me ≡ l.fn.self.me;
  databases : l.self.databases ≡ l.fn.self.databases;
  in_force : with_changes l.self.in_force (drop l.change-index l.changes) ≡ with_changes l.fn.self.in_force l.changes;
}
