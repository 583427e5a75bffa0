use Rattle.std.proofs.Common.{◌≡◌, ◌+◌, ◌++◌, length}
use Rattle.kv_sync.specs.Rows.{AreInOrder, AreInKeyOrder}
use Rattle.kv_sync.specs.Walk.{held_key, HaveTheirHashes, better_among, wanted_among}
use Rattle.kv_sync.proofs.difference.difference_of.Given as goal

-- the keys so far, and those of what is left
abbrev pub invariant-loop-held_row : goal.invariant-loop-held_row
invariant-loop-held_row l = record {
  better : l.better.items ++ better_among l.held_left l.rows_left ≡ better_among l.held l.rows;
  wanted : l.wanted.items ++ wanted_among l.rows_left l.held_left ≡ wanted_among l.rows l.held;
  held_order : AreInOrder held_key l.held_left;
  rows_order : AreInKeyOrder l.rows_left;
  hashes : HaveTheirHashes l.held_left;
}

abbrev pub decreases-loop-held_row : goal.decreases-loop-held_row
decreases-loop-held_row l = length l.held_left + length l.rows_left
