use Rattle.std.proofs.Common.{◌≡◌}
use Rattle.kv_table.proofs.index.HeldIndex.take_up_to.Given as goal

-- as many entries are taken as there were turns
abbrev pub invariant-loop-place : goal.invariant-loop-place
invariant-loop-place l = record {
  journal : l.self.journal ≡ l.fn.self.journal;
  count : l.self.count ≡ l._place;
}
